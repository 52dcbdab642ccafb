-- The contract of a run, which is that of `zg_plate`, leaves no second result and no second list of answers: the three lists before it fix how
-- many calls are done, and the six numbers of each. And demand 3 through the door: the count written for a call is the true one of the slots
-- after it, and the reach written for it is that of the history after it. Assumes nothing.
use mathlib.Core.Path.{◌≡◌, refl, sym, ap, ◌∙◌, subst}
use mathlib.Core.List.{List, [], ◌∷◌, ◌++◌}
use Prim.Native.Nat.{ℕ, zero, suc, ◌+◌, ◌*◌, ◌<◌}
use native.Mathlib.Omega.{arith}
use lib.IntN.{ℤ}
use lib.ListN.{get_or, take, drop, take-append-drop}
use lib.Seq.{get_or-take, get_or-drop, drop-drop}
use Rattle.checks.specs.Answers.{Answer, number_of, side_of, place_of, with_served}
use Rattle.slots.specs.Slots.{Clashes}
use Rattle.plate.specs.Histories.{History, slots_of, run}
use Rattle.slots.proofs.Clashing.{clashes_unique}
use Rattle.plate.proofs.Unique.{parts_rule_unique}
use Rattle.telling.specs.Numbers.{verdict_code, value_of}
use Rattle.runs.specs.PlateRuns.{Ask, call, parts, unknown, ask_at, added, calls_before, history_before, Six, AskAnswered, PlateRun}

-- ---- one call
-- An answer with the history after it has one list of six numbers, and so has a call on a history.
six_fixed : {told told' : Answer ℕ} {h : History} {six six' : List ℕ} → told ≡ told' → Six told h six → Six told' h six' → six ≡ six'
six_fixed {h} e x y =
    let count = clashes_unique x.true_count y.true_count in
    x.are ∙ (λ i. number_of (e i) ∷ side_of (e i) ∷ place_of (e i) ∷ count i ∷ h.reach ∷ value_of (e i) ∷ []) ∙ sym y.are

answered_fixed : (h : History) (ask : Ask) {six six' : List ℕ} → AskAnswered h ask six → AskAnswered h ask six' → six ≡ six'
answered_fixed h (call c) x y = six_fixed refl x y
answered_fixed h (parts p q) x y = six_fixed (ap (with_served verdict_code) (parts_rule_unique x.right y.right)) x.written y.written
answered_fixed h unknown x y = absurd x

-- ---- the run
-- Lists with the same sixes up to i, and the same rest behind them, are the same.
same_sixes : (i : ℕ) (xs ys : List ℕ) → ((k : ℕ) → k < i → take 6 (drop (6 * k) xs) ≡ take 6 (drop (6 * k) ys)) →
    drop (6 * i) xs ≡ drop (6 * i) ys → xs ≡ ys
same_sixes zero xs ys each rest = rest
same_sixes (suc i) xs ys each rest =
    same_sixes i xs ys (λ k h. each k (omega arith)) (split xs ∙ (λ t. each i (omega arith) t ++ rest t) ∙ sym (split ys))
  where
    split : (l : List ℕ) → drop (6 * i) l ≡ take 6 (drop (6 * i) l) ++ drop (6 * suc i) l
    split l =
        let behind : 6 * i + 6 ≡ 6 * suc i = omega arith in
        sym (take-append-drop 6 (drop (6 * i) l))
        ∙ ap (λ (r : List ℕ). take 6 (drop (6 * i) l) ++ r) (drop-drop 6 (6 * i) l ∙ ap (λ (n : ℕ). drop n l) behind)

module _ {calls : List ℕ} {numbers : List ℤ} {before : List ℕ} where
  -- A run that stops sooner than another stops at an unknown kind, which the other cannot have answered.
  no_sooner : {r r' : ℕ} {after after' : List ℕ} → PlateRun calls numbers before r after → PlateRun calls numbers before r' after' → r < r' → ⊥
  no_sooner {r} {after'} x y h =
      subst (λ (ask : Ask). AskAnswered (history_before calls numbers r) ask (take 6 (drop (6 * r) after')))
      (x.stopped (omega (arith, h, y.within))) (y.answered r h)

  -- Two results that meet the contract of a run, for the same three lists before it, are equal, and so are the answers that they leave.
  pub run_unique : {r r' : ℕ} {after after' : List ℕ} →
      PlateRun calls numbers before r after → PlateRun calls numbers before r' after' → (r ≡ r') × (after ≡ after')
  run_unique {r} {r'} {after} {after'} x y =
      let same : r ≡ r' = omega (arith, no_sooner x y, no_sooner y x) in (
        same,
        same_sixes r after after'
            (λ k h. answered_fixed (history_before calls numbers k) (ask_at calls numbers k) (x.answered k h) (y.answered k (omega (arith, h, same))))
            (x.rest ∙ ap (λ (n : ℕ). drop (6 * n) before) same ∙ sym y.rest ∙ ap (λ (n : ℕ). drop (6 * n) after') (sym same)),
      )

-- ---- demand 3 through the door
-- The fourth and the fifth of the six numbers of call k.
six_shows : {told : Answer ℕ} {h : History} (after : List ℕ) (k : ℕ) → Six told h (take 6 (drop (6 * k) after)) →
    Clashes (slots_of h) (get_or after (6 * k + 3) 0) × (get_or after (6 * k + 4) 0 ≡ h.reach)
six_shows {h} after k s =
    let count : get_or after (6 * k + 3) 0 ≡ s.count = at 3 (omega arith) ∙ ap (λ (l : List ℕ). get_or l 3 0) s.are in
    let reach : get_or after (6 * k + 4) 0 ≡ h.reach = at 4 (omega arith) ∙ ap (λ (l : List ℕ). get_or l 4 0) s.are in
    (subst (Clashes (slots_of h)) (sym count) s.true_count, reach)
  where
    at : (i : ℕ) → i < 6 → get_or after (6 * k + i) 0 ≡ get_or (take 6 (drop (6 * k) after)) i 0
    at i g = sym (get_or-drop (6 * k) after i 0) ∙ sym (get_or-take 6 (drop (6 * k) after) i 0 g)

-- Of every call that was done: of one that changes the plate, of one that is refused, and of the question.
pub run_demand : {calls : List ℕ} {numbers : List ℤ} {before : List ℕ} {r : ℕ} {after : List ℕ} → PlateRun calls numbers before r after →
    (k : ℕ) → k < r →
    Clashes (slots_of (history_before calls numbers (suc k))) (get_or after (6 * k + 3) 0)
    × (get_or after (6 * k + 4) 0 ≡ (history_before calls numbers (suc k)).reach)
unfolding calls_before run
run_demand {calls} {numbers} {after} x k h = shown (ask_at calls numbers k) (x.answered k h)
  where
    shown : (ask : Ask) → AskAnswered (history_before calls numbers k) ask (take 6 (drop (6 * k) after)) →
        Clashes (slots_of (run (added ask (calls_before calls numbers k)))) (get_or after (6 * k + 3) 0)
        × (get_or after (6 * k + 4) 0 ≡ (run (added ask (calls_before calls numbers k))).reach)
    shown (call c) s = six_shows after k s
    shown (parts p q) s = six_shows after k s.written
    shown unknown s = absurd s
