-- Where the bytes of a certificate lead, whatever kind it is of.
use Rattle.std.proofs.Common.{◌≡◌, ℕ, List, [], ◌∷◌, ◌++◌, refl, sym, ◌∙◌}
use Rattle.wh_cert.specs.Written.{Cert, yes, no}
use Rattle.wh_cert.specs.Limits.{CountsWithin}
use Rattle.wh_cert_machines.specs.LineMachine.{Standing, wrong, take_byte, run}
use Rattle.wh_cert_text.specs.ReadEnd.{IsEnd}

pub run_wrong : (p : List ℕ) → run wrong p ≡ wrong
run_wrong [] = refl
run_wrong (b ∷ p) = run_wrong p

pub run_append : (s : Standing) (p q : List ℕ) → run s (p ++ q) ≡ run (run s p) q
run_append s [] q = refl
run_append s (b ∷ p) q = run_append (take_byte s b) p q

-- one end is that of one certificate
pub one_end : (s : Standing) (c d : Cert) → IsEnd s c → IsEnd s d → c ≡ d
one_end s (no t steps at puts) (no u others to more) e f =
    let same = sym e ∙ f in
    cc
one_end s (no t steps at puts) (yes version ranks pairs nodes) e f =
    let same = sym e ∙ f in
    absurd cc
one_end s (yes version ranks pairs nodes) (no t steps at puts) e f =
    let same = sym f ∙ e in
    absurd cc
one_end s (yes v ranks pairs nodes) (yes w others count more) e f =
    let same = sym e ∙ f in
    cc

-- some bytes lead from here to the end of a certificate, whose lists have n as limit
pub record ReachesEnd (n : ℕ) (s : Standing) : Type 0 where
  pub tail : List ℕ
  pub c : Cert
  pub ends : IsEnd (run s tail) c
  pub within : CountsWithin n c

end_same : (s u : Standing) (c : Cert) → s ≡ u → IsEnd u c → IsEnd s c
end_same s u (no t steps at puts) e h = e ∙ h
end_same s u (yes version ranks pairs nodes) e h = e ∙ h

pub ends_after : (n : ℕ) (s u : Standing) (w : List ℕ → List ℕ) → ((r : List ℕ) → run s (w r) ≡ run u r) → ReachesEnd n u → ReachesEnd n s
ends_after n s u w leads e =
    record { tail = w e.tail; c = e.c; ends = end_same (run s (w e.tail)) (run u e.tail) e.c (leads e.tail) e.ends; within = e.within }
