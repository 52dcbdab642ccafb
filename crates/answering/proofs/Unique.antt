-- The contract leaves no second text: a sheet has one. And bytes behind the 65,537th don't matter. Assumes nothing.
use mathlib.Core.Path.{◌≡◌, refl, sym, ap, ◌∙◌, subst}
use mathlib.Core.List.{List, [], ◌∷◌, ◌++◌}
use Prim.Native.Nat.{ℕ, ◌≤◌}
use native.Mathlib.Omega.{arith}
use lib.ListN.{length, length-take, take, drop, take-append-drop}
use lib.Seq.{take_all, length-take-le}
use Rattle.checks.specs.Answers.{number_of}
use Rattle.slots.specs.Slots.{Clashes}
use Rattle.slots.proofs.Clashing.{clashes_unique}
use Rattle.plate.specs.Histories.{Call, slots_of, outcome, run}
use Rattle.checks.specs.Reasons.{number_of_reason}
use Rattle.fields.specs.declared.heads.Field.{Field}
use Rattle.fields.specs.Fields.{behind}
use Rattle.lines.specs.Lines.{line_of}
use Rattle.answering.specs.Sheets.{call_in, Lines, end, stop, field, longest, Output, long, read, SheetText}

pub lines_unique : {before : List Call} {rest text text' : List ℕ} → Lines before rest text → Lines before rest text' → text ≡ text'
lines_unique (end e) (end f) = refl
lines_unique (end e) (stop f d) = let no : ◌≡◌ {A = ℕ} 0 1 = cc in absurd (omega arith)
lines_unique (end e) (field f d m) = let no : ◌≡◌ {A = ℕ} 0 1 = cc in absurd (omega arith)
lines_unique (stop e c) (end f) = let no : ◌≡◌ {A = ℕ} 0 1 = cc in absurd (omega arith)
lines_unique (stop {why = n} e c) (stop {why = m} f d) =
    let same : n ≡ m = cc in (λ i. line_of (number_of_reason (same i)) (clashes_unique c d i))
lines_unique (stop e c) (field f d m) = let no : ◌≡◌ {A = ℕ} 0 1 = cc in absurd (omega arith)
lines_unique (field e c l) (end f) = let no : ◌≡◌ {A = ℕ} 0 1 = cc in absurd (omega arith)
lines_unique (field e c l) (stop f d) = let no : ◌≡◌ {A = ℕ} 0 1 = cc in absurd (omega arith)
lines_unique {before} {rest} (field {text = t} {field = a} {count = n} e c l) (field {text = u} {field = b} {count = m} f d k) =
    let fields : a ≡ b = cc in
    let call : call_in a rest ≡ call_in b rest = ap (λ (x : Field). call_in x rest) fields in
    let count : n ≡ m = clashes_unique (subst (λ (x : Call). Clashes (slots_of (run (x ∷ before))) n) call c) d in
    let later : t ≡ u = lines_unique (subst (λ (x : Field). Lines (call_in x rest ∷ before) (behind x.size rest) t) fields l) k in
    (λ i. line_of (number_of (outcome (run before) (call i))) (count i) ++ later i)

pub output_unique : {sheet text text' : List ℕ} → Output sheet text → Output sheet text' → text ≡ text'
output_unique (long h) (long k) = refl
output_unique (long h) (read k l) = absurd (omega arith)
output_unique (read h l) (long k) = absurd (omega arith)
output_unique (read h l) (read k m) = lines_unique l m

-- So the result and the buffer follow from the sheet and the buffer before.
pub text_unique : {sheet before : List ℕ} {r r' : ℕ} {after after' : List ℕ} →
    SheetText sheet before r after → SheetText sheet before r' after' → (r ≡ r') × (after ≡ after')
text_unique {before} {r} {r'} {after} {after'} a b =
    let same = output_unique a.right b.right in
    let lengths : r ≡ r' = sym (length-take-le r after a.within) ∙ ap length same ∙ length-take-le r' after' b.within in (
      lengths,
      sym (take-append-drop r after)
          ∙ (λ i. same i ++ (a.rest ∙ ap (λ (n : ℕ). drop n before) lengths ∙ sym b.rest) i) ∙ take-append-drop r' after',
    )

-- A reader may stop after 65,537 bytes: the text of the sheet is that of its first 65,537.
pub enough : (sheet : List ℕ) {text : List ℕ} → Output (take 65537 sheet) text → Output sheet text
enough sheet (long h) = long (omega (arith, h, length-take 65537 sheet))
enough sheet (read {text} h l) =
    let short : length sheet ≤ longest = omega (arith, h, length-take 65537 sheet) in
    read short (subst (λ (s : List ℕ). Lines [] s text) (take_all 65537 sheet (omega arith)) l)
