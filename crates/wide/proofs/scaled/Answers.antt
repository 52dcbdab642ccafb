-- `wide::scaled` meets its contract: both columns fit 64 bits, and they make the product. Assumes nothing.
use Rattle.std.proofs.Common.{◌≡◌, ◌+◌, ◌*◌, ◌%◌, ◌^◌, ◌≤◌, ℤ, pos, ◌+ℤ◌, ◌*ℤ◌, nat_abs, refl, ◌∙◌, w64, SFits, to_z, of_z}
use lib.Signed.{shr_z}
use Rattle.algebra.proofs.Machine.{Reads, parameter, in_range, held, sum, product}
use Rattle.wide.proofs.Halves.{low, high, low_cast, top, bottom, sound, word_fits, half_fits, halves, two_columns}
use Rattle.wide.proofs.scaled.Goals as goal

module _ (m d : ℤ) (fm : SFits w64 m) (fd : SFits w64 d) (hd : nat_abs d ≤ 2 ^ 31) where
  p : Reads (low (of_z w64 m) *ℤ to_z w64 (of_z w64 d)) (pos (of_z w64 m % 2 ^ 32) *ℤ d) (4294967295 * 2 ^ 31)
  p = product (bottom {z = m} refl) (parameter fd (record { abs = hd }))

  m1d : Reads (high m *ℤ to_z w64 (of_z w64 d)) (shr_z m (2 ^ 32) *ℤ d) (2 ^ 31 * 2 ^ 31)
  m1d = product (top refl fm) (parameter fd (record { abs = hd }))

  abbrev pm : ℤ
  pm = low (of_z w64 m) *ℤ to_z w64 (of_z w64 d)

  abbrev pz : ℤ
  pz = pos (of_z w64 m % 2 ^ 32) *ℤ d

  abbrev qm : ℤ
  qm = to_z w64 (of_z w64 (high m *ℤ to_z w64 (of_z w64 d))) +ℤ high pm

  abbrev qz : ℤ
  qz = shr_z m (2 ^ 32) *ℤ d +ℤ shr_z pz (2 ^ 32)

  q : Reads qm qz (2 ^ 31 * 2 ^ 31 + 2 ^ 31)
  q = sum (held w64 m1d tt) (top p.is (sound p tt))

  whole : high qm *ℤ pos (2 ^ 64) +ℤ pos (nat_abs (low (of_z w64 qm)) * 4294967296 + nat_abs (low (of_z w64 pm))) ≡ m *ℤ d
  whole =
      (λ i. (top q.is (sound q tt)).is i *ℤ pos (2 ^ 64) +ℤ pos (nat_abs ((bottom q.is).is i) * 4294967296 + nat_abs ((bottom p.is).is i)))
      ∙ two_columns m d (shr_z m (2 ^ 32)) (shr_z pz (2 ^ 32)) (shr_z qz (2 ^ 32)) (of_z w64 m % 2 ^ 32) (of_z w64 pz % 2 ^ 32) (of_z w64 qz % 2 ^ 32)
      (halves m fm) (halves pz (sound p tt)) (halves qz (sound q tt))

pub overflow_mul-p : goal.overflow_mul-p
overflow_mul-p c = in_range (p c.args.m c.args.d c.ranges.m c.ranges.d c.requires) tt

pub overflow_mul-q : goal.overflow_mul-q
overflow_mul-q c = in_range (m1d c.args.m c.args.d c.ranges.m c.ranges.d c.requires) tt

pub overflow_add-q : goal.overflow_add-q
overflow_add-q c = in_range (q c.args.m c.args.d c.ranges.m c.ranges.d c.requires) tt

pub overflow_cast-result : goal.overflow_cast-result
overflow_cast-result c = low_cast (of_z w64 (qm c.args.m c.args.d c.ranges.m c.ranges.d c.requires))

pub overflow_mul-result : goal.overflow_mul-result
overflow_mul-result c = half_fits (of_z w64 (qm c.args.m c.args.d c.ranges.m c.ranges.d c.requires))

pub overflow_add-result : goal.overflow_add-result
overflow_add-result c =
    word_fits (of_z w64 (qm c.args.m c.args.d c.ranges.m c.ranges.d c.requires)) (of_z w64 (pm c.args.m c.args.d c.ranges.m c.ranges.d c.requires))

pub returns : goal.returns
returns c = whole c.args.m c.args.d c.ranges.m c.ranges.d c.requires
