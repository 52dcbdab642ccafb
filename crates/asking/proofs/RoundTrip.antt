-- A field that is written is read as the call that it was written for, whatever follows it, and consists of bytes. Assumes nothing.
use mathlib.Core.Path.{◌≡◌, refl, sym, ap, ◌∙◌}
use mathlib.Core.List.{List, [], ◌∷◌, ◌++◌}
use Prim.Native.Nat.{ℕ, ◌+◌, ◌<◌}
use native.Mathlib.Omega.{arith}
use lib.IntN.{ℤ}
use lib.ListN.{length, length-append}
use lib.Seq.{take_at, drop_at, drop-drop}
use Rattle.shape.specs.Points.{coord}
use Rattle.packing.proofs.RoundTrip.{Bytes, none, one, Words, bytes_append, spread_bytes, spread_read, numbers_alone, numbers_bytes, length_bytes}
use Rattle.slots.specs.Changes.{place, lift, shift}
use Rattle.plate.specs.Histories.{Call, change, undo}
use Rattle.std.specs.Prelude.{Some, Ok}
use Rattle.fields.specs.declared.tags.Tag.{Tag}
use Rattle.fields.specs.declared.tags.Tag.TheVariants.{Place, Lift, Shift, Undo}
use Rattle.fields.specs.Tags.{number_of_tag, length_of}
use Rattle.fields.specs.Fields.{size_of, head_of, body_of, behind}
use Rattle.fields.proofs.FieldLaws.{whole}
use Rattle.asking.specs.Calls.{call_of}
use Rattle.asking.specs.Writing.{tag_of, body_for, field_of, written}

-- Bytes that begin with this field: its head, its body, and what follows it.
pub record Begins (l : List ℕ) (tag : Tag) (body rest : List ℕ) : Type 0 where
  pub head : head_of l ≡ Ok (Some (record { tag = tag; size = length body }))
  pub has : body_of (length body) l ≡ body
  pub then : behind (length body) l ≡ rest

pub field_read : (tag : Tag) (body rest : List ℕ) → length body < 65536 → length body ≡ length_of tag → Begins (field_of tag body ++ rest) tag body rest
field_read tag body rest small fits =
    let l = field_of tag body ++ rest in
    let long : length l ≡ 3 + (length body + length rest) = omega (arith, length-append body rest) in
    let size : size_of l ≡ length body = spread_read 2 (length body) small in
    record {
      head =
          whole l tag (omega (arith, long)) refl (size ∙ fits) (omega (arith, long, size))
          ∙ ap (λ (n : ℕ). Ok (Some (record { tag = tag; size = n }))) size;
      has = take_at body rest (length body) refl;
      then = sym (drop-drop (length body) 3 l) ∙ drop_at body rest (length body) refl;
    }

-- ---- calls that a field has room for: a byte each for slot and part, and four for a number
abbrev pub Sendable : Call → Type 0
Sendable (change (place slot part numbers)) = (slot < 256) × (part < 256) × (length numbers ≡ 9) × Words numbers
Sendable (change (lift slot)) = slot < 256
Sendable (change (shift part dx dy dz)) = (part < 256) × Words (dx ∷ dy ∷ dz ∷ [])
Sendable undo = Unit {0}

-- The body is read as the call,
pub call_read : (c : Call) → Sendable c → call_of (tag_of c) (body_for c) ≡ c
unfolding call_of
call_read (change (place slot part numbers)) (a, b, nine, words) =
    ap (λ (l : List ℤ). change (place slot part l))
    (numbers_alone nine words)
call_read (change (lift slot)) s = refl
call_read (change (shift part dx dy dz)) (b, words) =
    ap (λ (by : List ℤ). change (shift part (coord 0 by) (coord 1 by) (coord 2 by))) (numbers_alone refl words)
call_read undo s = refl

-- and the field as its head, its body and what follows it.
pub written_read : (c : Call) → Sendable c → (rest : List ℕ) → Begins (written c ++ rest) (tag_of c) (body_for c) rest
written_read (change (place slot part numbers)) (a, b, nine, words) rest =
    let size : length (body_for (change (place slot part numbers))) ≡ 38 = omega (arith, length_bytes numbers, nine) in
    field_read Place (body_for (change (place slot part numbers))) rest (omega (arith, size)) size
written_read (change (lift slot)) s rest = field_read Lift (slot ∷ []) rest (omega arith) refl
written_read (change (shift part dx dy dz)) s rest = field_read Shift (body_for (change (shift part dx dy dz))) rest (omega arith) refl
written_read undo s rest = field_read Undo [] rest (omega arith) refl

-- It consists of bytes.
body_bytes : (c : Call) → Sendable c → Bytes (body_for c)
body_bytes (change (place slot part numbers)) (a, b, nine, words) = one a (one b (numbers_bytes numbers))
body_bytes (change (lift slot)) a = one a none
body_bytes (change (shift part dx dy dz)) (b, words) = one b (numbers_bytes (dx ∷ dy ∷ dz ∷ []))
body_bytes undo s = none

tag_byte : (tag : Tag) → number_of_tag tag < 256
tag_byte Place = omega arith
tag_byte Lift = omega arith
tag_byte Shift = omega arith
tag_byte Undo = omega arith

pub written_bytes : (c : Call) → Sendable c → Bytes (written c)
written_bytes c s = one (tag_byte (tag_of c)) (bytes_append (spread_bytes 2 (length (body_for c))) (body_bytes c s))
