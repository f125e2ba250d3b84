-- Which items of a certificate stand whole in the beginning of its text (ours).
use Rattle.std.specs.Prelude.{ℕ, ◌≡◌, List, [], ◌∷◌, ◌++◌, codes}
use Rattle.std.specs.Fmt.{decimal}
use Rattle.wh_text.specs.Chars.{line_feed}
use Rattle.wh_text.specs.Spelling.{put_term}
use Rattle.wh_cert.specs.Written.{Cert}
use Rattle.wh_cert.specs.Items.{Item, yes_head, node, no_head, step, at, put, end, items}
use Rattle.wh_cert.specs.Text.{put_path, put_step, put_put, put_line, put_node}
use Rattle.wh_cert.specs.CertText.{CertText}

-- the lines of an item, with r behind them
abbrev pub put_item : Item → List ℕ → List ℕ
put_item (yes_head version ranks pairs) r =
    codes "YES " ++ (decimal version ++ (line_feed ∷ (codes "ranks" ++ put_line ranks
    (codes "pairs " ++ (decimal pairs ++ (line_feed ∷ r))))))
put_item (node x) r = put_node x r
put_item (no_head t) r = codes "NO 1" ++ (line_feed ∷ (codes "term " ++ put_term t (line_feed ∷ r)))
put_item (step s) r = put_step s r
put_item (at path) r = codes "at /" ++ put_path path (line_feed ∷ r)
put_item (put p) r = put_put p r
put_item end r = codes "end" ++ (line_feed ∷ r)

abbrev pub put_items : List Item → List ℕ → List ℕ
put_items [] r = r
put_items (i ∷ is) r = put_item i (put_items is r)

-- `is` are the first items of the certificate, as far as their last line feeds stand in the bytes: the bytes begin with
-- the lines of these items, and not with the lines of one item more
pub record WholeItems (bytes : List ℕ) (c : Cert) (is : List Item) : Type 0 where
  pub rest : List Item
  pub front : items c ≡ is ++ rest
  pub begun : (q : List ℕ) × (bytes ≡ put_items is q)
  pub no_more : (i : Item) (more : List Item) (q : List ℕ) → rest ≡ i ∷ more → bytes ≡ put_items (is ++ i ∷ []) q → ⊥

-- `is` are the items whose last line feed stands in the bytes, of each certificate whose text they begin
abbrev pub ItemsIn : List ℕ → List Item → Type 0
ItemsIn bytes is = (c : Cert) (r : List ℕ) → CertText (bytes ++ r) c → WholeItems bytes c is
