-- Bytes are the text of a certificate, or there is a place where they stop being the beginning of one.
use Rattle.std.proofs.Common.{◌≡◌, ℕ, zero, suc, ◌+◌, ◌^◌, ◌<◌, ◌⊎◌, inl, inr, List, length, take, refl, sym, subst, arith}
use Rattle.std.proofs.Math.Seq.{take-length}
use Rattle.wh_cert.specs.Written.{Cert, yes, no}
use Rattle.wh_cert.specs.CertText.{CertText, FaultAt}
use Rattle.wh_cert_machines.specs.YesMachine as y
use Rattle.wh_cert_machines.specs.LineMachine.{finished, placed, Standing, unread, stands, stands_yes, wrong, run, start}
use Rattle.wh_cert_text.specs.ReadEnd.{IsEnd}
use Rattle.wh_cert_text.proofs.Whole.{Stops, text_found, stopped_at, ended_early}

-- where the reader stops

stops_or_goes : (s : Standing) → Stops s ⊎ (Stops s → ⊥)
stops_or_goes unread = inr (λ stops. stops)
stops_or_goes (stands h p) = inr (λ stops. stops)
stops_or_goes (stands_yes h p) = inr (λ stops. stops)
stops_or_goes wrong = inl tt

-- it goes along this many bytes, or stops before
abbrev GoesOrStops : List ℕ → ℕ → Type 0
GoesOrStops p k =
    (Stops (run start (take k p)) → ⊥)
    ⊎ ((n : ℕ) × (n < k) × (Stops (run start (take n p)) → ⊥) × Stops (run start (take (suc n) p)))

goes_or_stops : (p : List ℕ) (k : ℕ) → GoesOrStops p k
goes_or_stops p zero = inl (λ stops. stops)
goes_or_stops p (suc k) = elim (goes_or_stops p k) [
  | inr (n, less, goes, stops) ↦ inr (n, omega (arith, less), goes, stops)
  | inl goes ↦ elim (stops_or_goes (run start (take (suc k) p))) [
    | inl stops ↦ inr (k, omega arith, goes, stops)
    | inr on ↦ inl on
  ]
]

-- whether it has read all of a certificate

abbrev IsWhole : Standing → Type 0
IsWhole (stands (placed t steps at puts) finished) = Unit {0}
IsWhole (stands_yes (y.so_far version ranks pairs nodes zero) y.finished) = Unit {0}
IsWhole _ = ⊥

ended : (s : Standing) (c : Cert) → IsEnd s c → IsWhole s
ended s (no t steps at puts) is = subst IsWhole (sym is) tt
ended s (yes version ranks pairs nodes) is = subst IsWhole (sym is) tt

whole_or_not : (s : Standing) → ((c : Cert) × IsEnd s c) ⊎ (IsWhole s → ⊥)
whole_or_not (stands (placed t steps at puts) finished) = inl (no t steps at puts, refl)
whole_or_not (stands_yes (y.so_far version ranks pairs nodes zero) y.finished) = inl (yes version ranks pairs nodes, refl)
whole_or_not s = inr (λ whole. whole)

pub text_or_fault : (p : List ℕ) → length p < 2 ^ 32 → ((c : Cert) × CertText p c) ⊎ ((at : ℕ) × FaultAt p at)
text_or_fault p short = elim (goes_or_stops p (length p)) [
  | inr (n, less, goes, stops) ↦
      let next : suc n ≡ n + 1 = omega arith in
      inr (n, stopped_at p n short less goes (subst (λ k. Stops (run start (take k p))) next stops))
  | inl goes ↦
      let goes_on = subst (λ (q : List ℕ). Stops (run start q) → ⊥) (take-length p) goes in
      elim (whole_or_not (run start p)) [
        | inl (c, is) ↦ inl (c, text_found p c short is)
        | inr not ↦ inr (length p, ended_early p short goes_on (λ c is. not (ended (run start p) c is)))
      ]
]
