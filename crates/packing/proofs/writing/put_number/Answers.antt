-- `packing::writing::put_number` meets its contract: the four bytes that the kit makes are the number's. Assumes nothing.
use mathlib.Core.Path.{◌≡◌, refl, sym, ap, ◌∙◌}
use Prim.Native.Nat.{◌+◌, ◌-◌}
use native.Mathlib.Omega.{arith}
use mir.Syntax.{w32}
use mir.Facts.{to_z-of_z}
use Rattle.std.specs.Int.{to_le_bytes, cast_unsigned}
use Rattle.std.proofs.lemmas.List.Edits.{sets-eq}
use Rattle.std.proofs.lemmas.Slice.{put_mid-paste}
use Rattle.packing.specs.Writing.{spread, bits_of}
use Rattle.packing.proofs.ByteLaws.{written_bytes}
use Rattle.packing.proofs.writing.put_number.Goals as goal

pub returns : goal.returns
returns c =
    let a = c.args in
    let bytes = spread 4 (bits_of a.z) in
    -- The bytes that were written are the number's.
    let is : c.copy_from_slice.new.self ≡ bytes =
    c.copy_from_slice.ensures.after
    ∙ c.to_le_bytes.ensures
    ∙ ap (λ z. to_le_bytes w32 (cast_unsigned w32 z)) (to_z-of_z c.ranges.z) ∙ written_bytes a.z in
    put_mid-paste a.at (a.at + 4 - a.at) a.out.now c.copy_from_slice.new.self bytes 4 is
    (omega arith) refl
    ∙ sym (sets-eq bytes a.out.now a.at c.requires)
