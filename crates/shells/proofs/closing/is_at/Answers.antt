-- `shells::closing::is_at` meets its contract: its three tests are those of the definition, in their order. Assumes nothing.
use Rattle.std.proofs.Common.{◌≡◌, refl, sym, ◌∙◌, ℕ, suc, ◌+◌, Bool, true, false, cond, ℤ, pos, get_or, eq-eqb, arith, rules}
use Rattle.shells.proofs.Sameness.{same_words}
use Rattle.shells.proofs.closing.is_at.Goals.{then-wanted-triangle, else-wanted-triangle}
use Rattle.shells.proofs.closing.is_at.Goals as goal

-- The machine's tests r and s are the definition's t and u: the third test decides, or the second does, or the first.
third : {r s answer t u v : Bool} → r ≡ t → r ≡ true → s ≡ u → s ≡ true → answer ≡ v → answer ≡ cond t (cond u (cond v true false) false) false
third {v} e h f i g = g ∙ itself v ∙ (λ k. cond (sym (sym e ∙ h) k) (cond (sym (sym f ∙ i) k) (cond v true false) false) false)
  where
    itself : (b : Bool) → b ≡ cond b true false
    itself true = refl
    itself false = refl

second : {s u : Bool} (t v : Bool) → s ≡ u → s ≡ false → s ≡ cond t (cond u v false) false
second t v f i = i ∙ neither t ∙ (λ k. cond t (cond (sym (sym f ∙ i) k) v false) false)
  where
    neither : (b : Bool) → false ≡ cond b false false
    neither true = refl
    neither false = refl

first : {r t : Bool} (u : Bool) → r ≡ t → r ≡ false → r ≡ cond t u false
first u e h = h ∙ (λ k. cond (sym (sym e ∙ h) k) u false)

one_on : (i : ℕ) → i + 1 ≡ suc i
one_on i = omega arith

two_on : (i : ℕ) → i + 2 ≡ suc (suc i)
two_on i = omega arith

pub returns-then-wanted-triangle-2 : goal.returns-then-wanted-triangle-2
returns-then-wanted-triangle-2 c =
    let a = c.args in
    let number : ℕ → ℤ = λ i. get_or a.triangle.now i (pos 0) in
    elim c.if-wanted-triangle.branch [
      | then-wanted-triangle w ↦
          third (same_words a.wanted.z (number (suc (suc a.at))) (search rules) (search rules)) (eq-eqb _ _ (rw (two_on a.at) at w.if-wanted-triangle.true))
          (rw (one_on a.at) at w.value-is ∙ same_words a.wanted.y (number (suc a.at)) (search rules) (search rules)) c.if-wanted-triangle-2.true
          (same_words a.wanted.x (number a.at) (search rules) (search rules))
      | else-wanted-triangle w ↦ search (rules, w.value-is, c.if-wanted-triangle-2.true)
    ]

pub returns-else-wanted-triangle-2 : goal.returns-else-wanted-triangle-2
returns-else-wanted-triangle-2 c =
    let a = c.args in
    let number : ℕ → ℤ = λ i. get_or a.triangle.now i (pos 0) in
    elim c.if-wanted-triangle.branch [
      | then-wanted-triangle w ↦
          second _ _ (rw (one_on a.at) at w.value-is ∙ same_words a.wanted.y (number (suc a.at)) (search rules) (search rules)) c.if-wanted-triangle-2.false
      | else-wanted-triangle w ↦
          first _ (rw (two_on a.at) at w.value-is ∙ same_words a.wanted.z (number (suc (suc a.at))) (search rules) (search rules)) c.if-wanted-triangle-2.false
    ]
