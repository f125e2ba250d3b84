-- A reader of bytes that has the one of the lines of a node of a path order in it reads each spelling of such lines.
use Rattle.std.proofs.Common.{◌≡◌, ℕ, false, cond, ◌&&◌, ◌==◌, nat_lt, List, [], ◌∷◌, ◌++◌, length, codes, refl, sym, ap, ◌∙◌, append_assoc, append-nil}
use Rattle.std.specs.List.{All}
use Rattle.std.proofs.lemmas.Bool.{cond-true, lt-ltb, and_from}
use Rattle.std.proofs.lemmas.List.Elements.{All-head, All-tail}
use Rattle.wh_text.specs.Chars.{is_start, is_part}
use Rattle.wh_cert_letters.proofs.NamesAndNumbers.{ReadsNames, name_run}
use Rattle.wh_order_inference.specs.Inferences.{Inference}
use Rattle.wh_order_inference.specs.InferenceText.{put_inference}
use Rattle.wh_order_inference.specs.InferenceLimits.{InferenceFits}
use Rattle.wh_order_inference.specs.FilterText.{WrittenFilter, put_filter}
use Rattle.wh_order_text.specs.FilterMachine as f
use Rattle.wh_order_text.specs.InferenceMachine as i
use Rattle.wh_order_text.proofs.FilterWhole.{reads_filter}
use Rattle.wh_order_text.proofs.InferenceWhole.{reads}
use Rattle.wh_cert.specs.Written.{Filtering}
use Rattle.wh_cert.specs.Text.{put_filterings, put_all_shown}
use Rattle.wh_cert.specs.Limits.{FilteringFits}
use Rattle.wh_cert_lines.specs.OrderLines.{Lines, in_funs, in_marks, in_rules, in_pairs, LinesPlace, lines_front, name_wanted, name, in_filter, space_wanted, in_inference, LinesStep, on, begins, refused, line_first, line_rest, line_begun, add_named, add_shown, first_step, filter_led, inference_led, lines_step}
use Rattle.wh_cert_lines.proofs.SectionsLaws.{skip_funs, skip_marks, skip_rules}

-- a reader, by where bytes lead it that stands at a place in lines, and by where they lead it behind a step of these
pub record Reader (T : Type 0) : Type 0 where
  pub at : Lines → LinesPlace → List ℕ → T
  pub led : LinesStep → List ℕ → T
  pub steps : (x : Lines) (k : LinesPlace) (b : ℕ) (r : List ℕ) → at x k (b ∷ r) ≡ led (lines_step x k b) r
  pub goes : (x : Lines) (k : LinesPlace) (r : List ℕ) → led (on x k) r ≡ at x k r
  pub begun : (x : Lines) (r : List ℕ) → led (begins x) (line_rest x ++ r) ≡ at x (line_begun x) r

-- a byte leads on
pub on_byte : {T : Type 0} (q : Reader T) (x : Lines) (k : LinesPlace) (b : ℕ) (y : Lines) (j : LinesPlace) (r : List ℕ) → lines_step x k b ≡ on y j → q.at x k (b ∷ r) ≡ q.at y j r
on_byte q x k b y j r e = q.steps x k b r ∙ ap (λ (s : LinesStep). q.led s r) e ∙ q.goes y j r

-- the word of a line
first_begins : (x : Lines) → first_step {K = LinesPlace} x (line_first x) ≡ begins x
first_begins (in_funs funs) = refl
first_begins (in_marks funs marks) = refl
first_begins (in_rules funs marks rules) = refl
first_begins (in_pairs funs marks rules pairs) = refl

word_run : {T : Type 0} (q : Reader T) (x : Lines) (r : List ℕ) → q.at x lines_front (line_first x ∷ (line_rest x ++ r)) ≡ q.at x (line_begun x) r
word_run q x r =
    q.steps x lines_front (line_first x) (line_rest x ++ r)
    ∙ ap (λ (s : LinesStep). q.led s (line_rest x ++ r)) (first_begins x)
    ∙ q.begun x r

-- lines of filters

line_names : {T : Type 0} (q : Reader T) (x : Lines) → ReadsNames (λ (r : List ℕ). q.at x name_wanted r) (λ (xs r : List ℕ). q.at x (name xs) r)
line_names q x = record {
  starts = λ b r is. on_byte q x name_wanted b x (name (b ∷ [])) r (cond-true (is_start b) (on x (name (b ∷ []))) refused is);
  goes = λ xs b r is short. on_byte q x (name xs) b x (name (xs ++ b ∷ [])) r (cond-true (is_part b && nat_lt (length xs) 64) (on x (name (xs ++ b ∷ []))) (cond (b == 32) (on x (in_filter xs f.wanted)) refused) (and_from (is_part b) (nat_lt (length xs) 64) is (lt-ltb (length xs) 64 short)));
}

pub filter_lift : {T : Type 0} (q : Reader T) (x : Lines) (xs : List ℕ) (s : f.Step) (w : List ℕ) (g : WrittenFilter) (r : List ℕ) → f.scan s w ≡ f.read g (10 ∷ r) → q.led (filter_led x xs s) w ≡ q.at (add_named x (record { name = xs; filter = g })) lines_front r
filter_lift q x xs (f.ended h b) w g r e =
    let same : h ≡ g = cc in
    let ends : b ≡ 10 = cc in
    let rest : w ≡ r = cc in
    ap (λ (o : WrittenFilter). q.led (filter_led x xs (f.ended o b)) w) same
    ∙ ap (λ (c : ℕ). q.led (filter_led x xs (f.ended g c)) w) ends
    ∙ ap (λ (v : List ℕ). q.led (on (add_named x (record { name = xs; filter = g })) lines_front) v) rest
    ∙ q.goes (add_named x (record { name = xs; filter = g })) lines_front r
filter_lift q x xs f.nowhere w g r e = absurd cc
filter_lift q x xs (f.goes k) [] g r e = absurd cc
filter_lift q x xs (f.goes k) (b ∷ w) g r e =
    q.goes x (in_filter xs k) (b ∷ w) ∙ q.steps x (in_filter xs k) b w ∙ filter_lift q x xs (f.step k b) w g r e

-- behind the word of such a line
filter_run : {T : Type 0} (q : Reader T) (x : Lines) (g : Filtering) (r : List ℕ) → FilteringFits g → q.at x name_wanted (g.name ++ (32 ∷ put_filter g.filter (10 ∷ r))) ≡ q.at (add_named x g) lines_front r
filter_run q x g r fits =
    let text : List ℕ = put_filter g.filter (10 ∷ r) in
    name_run _ _ (line_names q x) g.name (32 ∷ text) fits.name
    ∙ on_byte q x (name g.name) 32 x (in_filter g.name f.wanted) text refl
    ∙ sym (q.goes x (in_filter g.name f.wanted) text)
    ∙ filter_lift q x g.name f.start text g.filter r (reads_filter g.filter r fits.filter)

funs_run : {T : Type 0} (q : Reader T) (funs more : List Filtering) (r : List ℕ) → All FilteringFits more → q.at (in_funs funs) lines_front (put_filterings (codes "fun ") more r) ≡ q.at (in_funs (funs ++ more)) lines_front r
funs_run q funs [] r fits = ap (λ (zs : List Filtering). q.at (in_funs zs) lines_front r) (sym (append-nil funs))
funs_run q funs (g ∷ more) r fits =
    let rest : List ℕ = put_filterings (codes "fun ") more r in
    word_run q (in_funs funs) (g.name ++ (32 ∷ put_filter g.filter (10 ∷ rest)))
    ∙ filter_run q (in_funs funs) g rest (All-head FilteringFits g more fits)
    ∙ funs_run q (funs ++ g ∷ []) more r (All-tail FilteringFits g more fits)
    ∙ ap (λ (zs : List Filtering). q.at (in_funs zs) lines_front r) (append_assoc funs (g ∷ []) more)

marks_run : {T : Type 0} (q : Reader T) (funs marks more : List Filtering) (r : List ℕ) → All FilteringFits more → q.at (in_marks funs marks) lines_front (put_filterings (codes "mark ") more r) ≡ q.at (in_marks funs (marks ++ more)) lines_front r
marks_run q funs marks [] r fits = ap (λ (zs : List Filtering). q.at (in_marks funs zs) lines_front r) (sym (append-nil marks))
marks_run q funs marks (g ∷ more) r fits =
    let rest : List ℕ = put_filterings (codes "mark ") more r in
    word_run q (in_marks funs marks) (g.name ++ (32 ∷ put_filter g.filter (10 ∷ rest)))
    ∙ filter_run q (in_marks funs marks) g rest (All-head FilteringFits g more fits)
    ∙ marks_run q funs (marks ++ g ∷ []) more r (All-tail FilteringFits g more fits)
    ∙ ap (λ (zs : List Filtering). q.at (in_marks funs zs) lines_front r) (append_assoc marks (g ∷ []) more)

-- lines of inferences

pub inference_lift : {T : Type 0} (q : Reader T) (x : Lines) (s : i.Step) (w : List ℕ) (j : Inference) (r : List ℕ) → i.scan s w ≡ i.read j (10 ∷ r) → q.led (inference_led x s) w ≡ q.at (add_shown x j) lines_front r
inference_lift q x (i.ended h b) w j r e =
    let same : h ≡ j = cc in
    let ends : b ≡ 10 = cc in
    let rest : w ≡ r = cc in
    ap (λ (o : Inference). q.led (inference_led x (i.ended o b)) w) same
    ∙ ap (λ (c : ℕ). q.led (inference_led x (i.ended j c)) w) ends
    ∙ ap (λ (v : List ℕ). q.led (on (add_shown x j) lines_front) v) rest
    ∙ q.goes (add_shown x j) lines_front r
inference_lift q x i.nowhere w j r e = absurd cc
inference_lift q x (i.goes fs k) [] j r e = absurd cc
inference_lift q x (i.goes fs k) (b ∷ w) j r e =
    q.goes x (in_inference fs k) (b ∷ w) ∙ q.steps x (in_inference fs k) b w ∙ inference_lift q x (i.step fs k b) w j r e

-- behind the word of such a line
inference_run : {T : Type 0} (q : Reader T) (x : Lines) (j : Inference) (r : List ℕ) → InferenceFits 0 j → q.at x space_wanted (32 ∷ put_inference j (10 ∷ r)) ≡ q.at (add_shown x j) lines_front r
inference_run q x j r fits =
    let text : List ℕ = put_inference j (10 ∷ r) in
    on_byte q x space_wanted 32 x (in_inference i.outside i.wanted) text refl
    ∙ sym (q.goes x (in_inference i.outside i.wanted) text)
    ∙ inference_lift q x i.start text j r (reads j 10 r fits)

rules_run : {T : Type 0} (q : Reader T) (funs marks : List Filtering) (rules more : List Inference) (r : List ℕ) → All (InferenceFits 0) more → q.at (in_rules funs marks rules) lines_front (put_all_shown (codes "rule ") more r) ≡ q.at (in_rules funs marks (rules ++ more)) lines_front r
rules_run q funs marks rules [] r fits = ap (λ (zs : List Inference). q.at (in_rules funs marks zs) lines_front r) (sym (append-nil rules))
rules_run q funs marks rules (j ∷ more) r fits =
    let rest : List ℕ = put_all_shown (codes "rule ") more r in
    word_run q (in_rules funs marks rules) (32 ∷ put_inference j (10 ∷ rest))
    ∙ inference_run q (in_rules funs marks rules) j rest (All-head (InferenceFits 0) j more fits)
    ∙ rules_run q funs marks (rules ++ j ∷ []) more r (All-tail (InferenceFits 0) j more fits)
    ∙ ap (λ (zs : List Inference). q.at (in_rules funs marks zs) lines_front r) (append_assoc rules (j ∷ []) more)

pairs_run : {T : Type 0} (q : Reader T) (funs marks : List Filtering) (rules pairs more : List Inference) (r : List ℕ) → All (InferenceFits 0) more → q.at (in_pairs funs marks rules pairs) lines_front (put_all_shown (codes "pair ") more r) ≡ q.at (in_pairs funs marks rules (pairs ++ more)) lines_front r
pairs_run q funs marks rules pairs [] r fits = ap (λ (zs : List Inference). q.at (in_pairs funs marks rules zs) lines_front r) (sym (append-nil pairs))
pairs_run q funs marks rules pairs (j ∷ more) r fits =
    let rest : List ℕ = put_all_shown (codes "pair ") more r in
    word_run q (in_pairs funs marks rules pairs) (32 ∷ put_inference j (10 ∷ rest))
    ∙ inference_run q (in_pairs funs marks rules pairs) j rest (All-head (InferenceFits 0) j more fits)
    ∙ pairs_run q funs marks rules (pairs ++ j ∷ []) more r (All-tail (InferenceFits 0) j more fits)
    ∙ ap (λ (zs : List Inference). q.at (in_pairs funs marks rules zs) lines_front r) (append_assoc pairs (j ∷ []) more)

-- where no more line of a kind comes, it is as if one of the next kind had come

abbrev Other : ℕ → List ℕ → Type 0
Other c [] = ⊥
Other c (b ∷ r) = (b == c) ≡ false

-- one byte more, where the first one leads to the same
other_front : {T : Type 0} (q : Reader T) (x z : Lines) (c : ℕ) (w : List ℕ) → ((b : ℕ) → (b == c) ≡ false → first_step {K = LinesPlace} x b ≡ first_step z b) → Other c w
    → q.at x lines_front w ≡ q.at z lines_front w
other_front q x z c [] skip o = absurd o
other_front q x z c (b ∷ w) skip o =
    q.steps x lines_front b w ∙ ap (λ (s : LinesStep). q.led s w) (skip b o) ∙ sym (q.steps z lines_front b w)

-- all lines up to the word of that of `drop`

pairs_other : (pairs : List Inference) (r : List ℕ) → Other 114 (put_all_shown (codes "pair ") pairs (codes "drop" ++ r))
pairs_other [] r = refl
pairs_other (j ∷ pairs) r = refl

rules_other : (rules pairs : List Inference) (r : List ℕ) → Other 109 (put_all_shown (codes "rule ") rules (put_all_shown (codes "pair ") pairs (codes "drop" ++ r)))
rules_other [] [] r = refl
rules_other [] (j ∷ pairs) r = refl
rules_other (j ∷ rules) pairs r = refl

marks_other : (marks : List Filtering) (rules pairs : List Inference) (r : List ℕ) → Other 102 (put_filterings (codes "mark ") marks (put_all_shown (codes "rule ") rules (put_all_shown (codes "pair ") pairs (codes "drop" ++ r))))
marks_other [] [] [] r = refl
marks_other [] [] (j ∷ pairs) r = refl
marks_other [] (j ∷ rules) pairs r = refl
marks_other (g ∷ marks) rules pairs r = refl

pub lines_run : {T : Type 0} (q : Reader T) (funs marks : List Filtering) (rules pairs : List Inference) (r : List ℕ) → All FilteringFits funs → All FilteringFits marks → All (InferenceFits 0) rules → All (InferenceFits 0) pairs
    → q.at (in_funs []) lines_front (put_filterings (codes "fun ") funs (put_filterings (codes "mark ") marks (put_all_shown (codes "rule ") rules (put_all_shown (codes "pair ") pairs (codes "drop" ++ r)))))
    ≡ q.at (in_pairs funs marks rules pairs) lines_front (codes "drop" ++ r)
lines_run q funs marks rules pairs r f m u p =
    let last : List ℕ = codes "drop" ++ r in
    let fourth : List ℕ = put_all_shown (codes "pair ") pairs last in
    let third : List ℕ = put_all_shown (codes "rule ") rules fourth in
    let second : List ℕ = put_filterings (codes "mark ") marks third in
    funs_run q [] funs second f
    ∙ other_front q (in_funs funs) (in_marks funs []) 102 second (skip_funs funs) (marks_other marks rules pairs r)
    ∙ marks_run q funs [] marks third m
    ∙ other_front q (in_marks funs marks) (in_rules funs marks []) 109 third (skip_marks funs marks) (rules_other rules pairs r)
    ∙ rules_run q funs marks [] rules fourth u
    ∙ other_front q (in_rules funs marks rules) (in_pairs funs marks rules []) 114 fourth (skip_rules funs marks rules) (pairs_other pairs r)
    ∙ pairs_run q funs marks rules [] pairs last p
