-- What the reader's places say of certificate texts: where it ends, where it goes on, where it stops.
use Rattle.std.proofs.Common.{◌≡◌, ℕ, suc, ◌+◌, ◌^◌, ◌<◌, ◌≤◌, List, [], ◌∷◌, ◌++◌, length, take, drop, codes, refl, sym, ap, ◌∙◌, subst, arith, ⊎_elim}
use Rattle.std.proofs.lemmas.Bool.{cases_lt}
use Rattle.std.proofs.lemmas.List.Elements.{All-nil, All-push}
use Rattle.std.proofs.lemmas.List.{take-append-drop, take-append-le, length-take-le}
use Rattle.std.proofs.Math.Seq.{take-length}
use Rattle.wh_cert.specs.Written.{done, Cert, yes, no}
use Rattle.wh_cert.specs.Limits.{NodeWithin, CountsWithin}
use Rattle.wh_cert.specs.CertText.{CertText, Begins, SyntaxAt, FaultAt}
use Rattle.wh_cert_machines.specs.YesMachine as y
use Rattle.wh_cert_machines.specs.LineMachine.{finished, placed, Standing, unread, stands, stands_yes, wrong, run, start}
use Rattle.wh_cert_text.specs.ReadEnd.{IsEnd}
use Rattle.wh_cert_text.proofs.YesReached.{nodes_wider}
use Rattle.wh_cert_text.proofs.YesEnds.{yes_ends}
use Rattle.wh_cert_text.proofs.Ended.{run_wrong, run_append, one_end, ReachesEnd}
use Rattle.wh_cert_text.proofs.Reached.{reached_at, reached_yes, found, counts_wider}
use Rattle.wh_cert_text.proofs.LineComplete.{cert_run}
use Rattle.wh_cert_text.proofs.LineEnds.{line_place_ends}

-- no further byte leads to a certificate
abbrev pub Stops : Standing → Type 0
Stops wrong = Unit {0}
Stops _ = ⊥

run_stops : (s : Standing) (p : List ℕ) → Stops s → run s p ≡ s
run_stops unread p h = absurd h
run_stops (stands k q) p h = absurd h
run_stops (stands_yes k q) p h = absurd h
run_stops wrong p h = run_wrong p

no_end : (s : Standing) (c : Cert) → Stops s → IsEnd s c → ⊥
no_end wrong (no t steps at puts) h e = absurd cc
no_end wrong (yes version ranks pairs nodes) h e = absurd cc
no_end unread c h e = h
no_end (stands k q) c h e = h
no_end (stands_yes k q) c h e = h

counts_found : (p : List ℕ) (c : Cert) → length p < 2 ^ 32 → IsEnd (run start p) c → CountsWithin (2 ^ 32) c
counts_found p (no t steps at puts) short e =
    let g = reached_at p (placed t steps at puts) finished e in
    counts_wider (length p) (2 ^ 32) (no t steps at puts) (omega arith) g.within
counts_found p (yes version ranks pairs nodes) short e =
    let g = reached_yes p (y.so_far version ranks pairs nodes 0) y.finished e in
    let before : g.before ≤ length p = omega (arith, g.sum) in
    (omega (arith, g.past.0.1), omega (arith, g.past.4), nodes_wider g.before (2 ^ 32) nodes (omega arith) g.past.3)

-- all was read: the bytes are the text of the certificate
pub text_found : (p : List ℕ) (c : Cert) → length p < 2 ^ 32 → IsEnd (run start p) c → CertText p c
text_found p c short e =
    let f = found p c e in
    record { fits = record { parts = f.0; counts = counts_found p c short e }; spelled = f.1 }

-- a text is read to its end
pub text_run : (p : List ℕ) (c : Cert) → CertText p c → IsEnd (run start p) c
text_run p c t = subst (λ (q : List ℕ). IsEnd (run start q) c) (sym t.spelled) (cert_run c t.fits.parts)

pub ends_begins : (p : List ℕ) → ReachesEnd (2 ^ 32) (run start p) → Begins p
ends_begins p w =
    let f = found (p ++ w.tail) w.c (subst (λ (s : Standing). IsEnd s w.c) (sym (run_append start p w.tail)) w.ends) in
    (w.c, w.tail, record { fits = record { parts = f.0; counts = w.within }; spelled = f.1 })

-- every certificate is before us
unread_ends : ReachesEnd (2 ^ 32) unread
unread_ends = record {
  tail = codes "YES 1" ++ (10 ∷ (codes "ranks" ++ (10 ∷ (codes "pairs 0" ++ (10 ∷ (codes "done" ++ (10 ∷ (codes "end" ++ (10 ∷ [])))))))));
  c = yes 1 [] 0 (done ∷ []);
  ends = refl;
  within = (omega arith, omega arith, All-push (NodeWithin (2 ^ 32)) [] done (All-nil (NodeWithin (2 ^ 32))) tt);
}

place_ends : (p : List ℕ) (s : Standing) → length p < 2 ^ 32 → run start p ≡ s → (Stops s → ⊥) → ReachesEnd (2 ^ 32) s
place_ends p unread short e h = unread_ends
place_ends p (stands k q) short e h =
    let g = reached_at p k q e in
    let w = line_place_ends (length p) k q g.place g.staged g.within in
    record { tail = w.tail; c = w.c; ends = w.ends; within = counts_wider (suc (length p)) (2 ^ 32) w.c (omega arith) w.within }
place_ends p (stands_yes k q) short e h = yes_ends (length p) k q (λ r. p ++ r) short (reached_yes p k q e)
place_ends p wrong short e h = absurd (h tt)

-- the bytes along which it goes begin a text
pub goes_begins : (p : List ℕ) → length p < 2 ^ 32 → (Stops (run start p) → ⊥) → Begins p
goes_begins p short goes = ends_begins p (place_ends p (run start p) short refl goes)

-- the bytes at which it stops begin none
pub begins_goes : (p : List ℕ) → Begins p → Stops (run start p) → ⊥
begins_goes p (c, r, t) stops =
    no_end (run start p) c stops (subst (λ (s : Standing). IsEnd s c) (run_append start p r ∙ run_stops (run start p) r stops) (text_run (p ++ r) c t))

-- it stops for good
stopped : (p : List ℕ) (k : ℕ) → Stops (run start (take k p)) → Stops (run start p)
stopped p k stops =
    subst Stops (sym (run_stops (run start (take k p)) (drop k p) stops) ∙ sym (run_append start (take k p) (drop k p)) ∙ ap (run start) (take-append-drop k p)) stops

front_of_front : (k m : ℕ) (p : List ℕ) → k ≤ m → m ≤ length p → take k (take m p) ≡ take k p
front_of_front k m p le within =
    let long : k ≤ length (take m p) = omega (arith, length-take-le m p within) in
    sym (take-append-le k (take m p) (drop m p) long) ∙ ap (take k) (take-append-drop m p)

-- stopped at n, where the next byte leads nowhere
pub stopped_at : (p : List ℕ) (n : ℕ) → length p < 2 ^ 32 → n < length p → (Stops (run start (take n p)) → ⊥) → Stops (run start (take (n + 1) p)) → FaultAt p n
stopped_at p n short below goes stops =
    record {
      no_text = λ c t. no_end (run start p) c (stopped p (n + 1) stops) (text_run p c t);
      place = record {
        within = omega arith;
        begins = goes_begins (take n p) (omega (arith, length-take-le n p (omega arith))) goes;
        longest = λ m within begins. ⊎_elim
            (λ (l : m < n + 1). omega arith)
            (λ (l : n + 1 ≤ m). absurd (begins_goes (take m p) begins (stopped (take m p) (n + 1) (subst (λ (q : List ℕ). Stops (run start q)) (sym (front_of_front (n + 1) m p l within)) stops))))
            (cases_lt m (n + 1));
      };
    }

-- ended too early
pub ended_early : (p : List ℕ) → length p < 2 ^ 32 → (Stops (run start p) → ⊥) → ((c : Cert) → IsEnd (run start p) c → ⊥) → FaultAt p (length p)
ended_early p short goes early =
    record {
      no_text = λ c t. early c (text_run p c t);
      place = record {
        within = omega arith;
        begins = subst Begins (sym (take-length p)) (goes_begins p short goes);
        longest = λ m within begins. within;
      };
    }

-- laws of certificate texts

pub one_certificate : (p : List ℕ) (c d : Cert) → CertText p c → CertText p d → c ≡ d
one_certificate p c d s t = one_end (run start p) c d (text_run p c s) (text_run p d t)

-- behind an end every byte is wrong
end_stops : (s : Standing) (c : Cert) (b : ℕ) (q : List ℕ) → IsEnd s c → Stops (run s (b ∷ q))
end_stops s (no t steps at puts) b q e =
    subst (λ (u : Standing). Stops (run u (b ∷ q))) (sym e) (subst Stops (sym (run_wrong q)) tt)
end_stops s (yes version ranks pairs nodes) b q e =
    subst (λ (u : Standing). Stops (run u (b ∷ q))) (sym e) (subst Stops (sym (run_wrong q)) tt)

pub no_proper_prefix : (p q : List ℕ) (c d : Cert) → CertText p c → CertText (p ++ q) d → q ≡ []
no_proper_prefix p [] c d s t = refl
no_proper_prefix p (b ∷ q) c d s t =
    absurd (no_end (run (run start p) (b ∷ q)) d (end_stops (run start p) c b q (text_run p c s)) (subst (λ (u : Standing). IsEnd u d) (run_append start p (b ∷ q)) (text_run (p ++ b ∷ q) d t)))

pub one_place : (p : List ℕ) (n m : ℕ) → SyntaxAt p n → SyntaxAt p m → n ≡ m
one_place p n m s t =
    let one : n ≤ m = t.longest n s.within s.begins in
    let other : m ≤ n = s.longest m t.within t.begins in
    omega arith

pub one_text : (p q : List ℕ) (c : Cert) → CertText p c → CertText q c → p ≡ q
one_text p q c s t = s.spelled ∙ sym t.spelled
