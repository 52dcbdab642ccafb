-- Numbers compared, as the machine does it: on the words that hold them. Assumes nothing.
use Rattle.std.proofs.Common.{◌≡◌, sym, ap, ◌∙◌, eqb, ℤ, ◌-ℤ◌, w32, to_z, of_z, SFits, eqb-true, eq-eqb, Decides}
use Rattle.std.proofs.lemmas.Bool.Decides.{same_from_decides}
use Rattle.std.proofs.lemmas.Int.{to_z-of_z}
use lib.IntN.{+ℤ_invr}
use Rattle.algebra.proofs.Order.{eq_of_sub}
use Rattle.shape.specs.Flat.{is_zero}
use Rattle.shape.proofs.FlatLaws.{zero_says}

pub same_words : (x y : ℤ) → SFits w32 x → SFits w32 y → eqb (of_z w32 x) (of_z w32 y) ≡ is_zero (y -ℤ x)
same_words x y x_fits y_fits = same_from_decides _ _ by_words by_difference
  where
    by_words : Decides (eqb (of_z w32 x) (of_z w32 y)) (x ≡ y)
    by_words =
        (λ e. sym (to_z-of_z w32 x x_fits) ∙ ap (to_z w32) (eqb-true (of_z w32 x) (of_z w32 y) e) ∙ to_z-of_z w32 y y_fits, λ e. eq-eqb _ _ (ap (of_z w32) e))

    by_difference : Decides (is_zero (y -ℤ x)) (x ≡ y)
    by_difference =
        (λ e. eq_of_sub x y ((zero_says (y -ℤ x)).yes e), λ e. ap (λ (z : ℤ). is_zero (z -ℤ x)) (sym e) ∙ ap is_zero (+ℤ_invr x))
