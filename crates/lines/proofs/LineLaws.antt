-- Text laid into a buffer, and how long numbers and lines are. Assumes nothing.
use mathlib.Core.Path.{◌≡◌, refl, sym, ap, ◌∙◌, subst}
use mathlib.Core.Bool.{Bool, true, false, cond}
use mathlib.Core.List.{List, [], ◌∷◌, ◌++◌, append_assoc}
use Prim.Native.Nat.{ℕ, zero, suc, ◌+◌, ◌-◌, ◌/◌, ◌%◌, ◌^◌, ◌≤◌, ◌<◌}
use native.Mathlib.Omega.{arith}
use native.Mathlib.Nat.{pow-le-pow_right}
use borrow.Author.Tests.{lt-ltb, le-ltb}
use lib.Dec.{ltb}
use lib.ListN.{length, length-append, take, drop}
use lib.Seq.{paste, take-length, take_at, drop_at, drop-drop, length-take-le, length-paste}
use Rattle.io.specs.Digits.{hex_digit_ascii, last_digits, IsDigitCount}
use Rattle.lines.specs.Laid.{laid}
use Rattle.lines.specs.Lines.{places, decimal, line_of}

-- ---- text in a buffer
pub pasted_all : (d : List ℕ) (at : ℕ) (text : List ℕ) → paste d at text (length text) ≡ laid d at text
pasted_all d at text = ap (λ (t : List ℕ). take at d ++ t ++ drop (at + length text) d) (take-length text)

pub length_laid : (d : List ℕ) (at : ℕ) (text : List ℕ) → at + length text ≤ length d → length (laid d at text) ≡ length d
length_laid d at text h = ap length (sym (pasted_all d at text)) ∙ length-paste d at text (length text) h (omega arith)

-- One text after another is the two together.
pub laid_on : (d : List ℕ) (at : ℕ) (a b : List ℕ) → at ≤ length d → laid (laid d at a) (at + length a) b ≡ laid d at (a ++ b)
laid_on d at a b h =
    let front = take at d ++ a in
    let rest = drop (at + length a) d in
    let long : length front ≡ at + length a = length-append (take at d) a ∙ ap (λ (n : ℕ). n + length a) (length-take-le at d h) in
    let end : at + length a + length b ≡ at + length (a ++ b) = omega (arith, length-append a b) in
    ap (λ (t : List ℕ). t ++ b ++ drop (at + length a + length b) (front ++ rest)) (take_at front rest (at + length a) long)
    ∙ ap (λ (t : List ℕ). front ++ b ++ t)
    (sym (drop-drop (length b) (at + length a) (front ++ rest))
    ∙ ap (drop (length b)) (drop_at front rest (at + length a) long)
    ∙ drop-drop (length b) (at + length a) d
    ∙ ap (λ (n : ℕ). drop n d) end)
    ∙ ap (λ (t : List ℕ). t ++ drop (at + length (a ++ b)) d) (append_assoc (take at d) a b)

-- ---- how long a number is
length_digits : (b k n : ℕ) → length (last_digits b k n) ≡ k
length_digits b zero n = refl
length_digits b (suc k) n =
    length-append (last_digits b k (n / b)) (hex_digit_ascii (n % b) ∷ []) ∙ omega (arith, length_digits b k (n / b))

pub length_decimal : (n : ℕ) → length (decimal n) ≡ places n
unfolding decimal
length_decimal n = length_digits 10 (places n) n

-- The fewest digits that hold a number below 10,000 are as many as the definition says.
pub fewest_places : (k n : ℕ) → IsDigitCount 10 1 n k → n < 10000 → k ≡ places n
fewest_places zero n (some, holds, no_less) h = absurd (omega arith)
fewest_places (suc zero) n (some, holds, no_less) h = rw (lt-ltb n 10 holds)
fewest_places (suc (suc zero)) n (some, holds, no_less) h = rw (le-ltb n 10 (no_less (omega arith)), lt-ltb n 100 holds)
fewest_places (suc (suc (suc zero))) n (some, holds, no_less) h =
    let more : 100 ≤ n = no_less (omega arith) in
    rw (le-ltb n 10 (omega arith), le-ltb n 100 more, lt-ltb n 1000 holds)
fewest_places (suc (suc (suc (suc zero)))) n (some, holds, no_less) h =
    let more : 1000 ≤ n = no_less (omega arith) in
    rw (le-ltb n 10 (omega arith), le-ltb n 100 (omega arith), le-ltb n 1000 more)
fewest_places (suc (suc (suc (suc (suc k))))) n (some, holds, no_less) h =
    let one_off : suc (suc (suc (suc (suc k)))) - 1 ≡ suc (suc (suc (suc k))) = omega arith in
    let more : 10 ^ suc (suc (suc (suc k))) ≤ n = subst (λ (j : ℕ). 10 ^ j ≤ n) one_off (no_less (omega arith)) in
    let most : 10 ^ 4 ≤ 10 ^ suc (suc (suc (suc k))) = pow-le-pow_right {n = 10} (omega arith) {i = 4} {j = suc (suc (suc (suc k)))} (omega arith) in
    absurd (omega (arith, more, most))

pub digits_decimal : (k n : ℕ) → IsDigitCount 10 1 n k → n < 10000 → last_digits 10 k n ≡ decimal n
unfolding decimal
digits_decimal k n f h = ap (λ (j : ℕ). last_digits 10 j n) (fewest_places k n f h)

-- A number has four digits at most, and one below 100 has two.
places_four : (n : ℕ) → places n ≤ 4
places_four n = cases (ltb n 10) (ltb n 100) (ltb n 1000)
  where
    cases : (a b c : Bool) → cond a 1 (cond b 2 (cond c 3 4)) ≤ 4
    cases true b c = omega arith
    cases false true c = omega arith
    cases false false true = omega arith
    cases false false false = omega arith

places_two : (n : ℕ) → n < 100 → places n ≤ 2
places_two n h = rw (lt-ltb n 100 h) (cases (ltb n 10))
  where
    cases : (a : Bool) → cond a 1 2 ≤ 2
    cases true = omega arith
    cases false = omega arith

pub short_decimal : (n : ℕ) → length (decimal n) ≤ 4
short_decimal n = omega (arith, length_decimal n, places_four n)

pub shorter_decimal : (n : ℕ) → n < 100 → length (decimal n) ≤ 2
shorter_decimal n h = omega (arith, length_decimal n, places_two n h)

-- ---- a line, text by text
pub line_texts : (number count : ℕ) → decimal number ++ (32 ∷ []) ++ decimal count ++ (10 ∷ []) ≡ line_of number count
unfolding line_of
line_texts number count = append_assoc (decimal number ++ (32 ∷ [])) (decimal count) (10 ∷ []) ∙ append_assoc (decimal number) (32 ∷ []) (decimal count ++ (10 ∷ []))

pub length_line : (number count : ℕ) → length (line_of number count) ≡ length (decimal number) + length (decimal count) + 2
unfolding line_of
length_line number count =
    omega (arith, length-append (decimal number) (32 ∷ decimal count ++ (10 ∷ [])), length-append (decimal count) (10 ∷ []))

pub short_line : (number count : ℕ) → number < 100 → length (line_of number count) ≤ 8
short_line number count h = omega (arith, length_line number count, shorter_decimal number h, short_decimal count)

-- ---- texts one after the other: the place after the text, and the buffer with it
pub record Put (d : List ℕ) (at : ℕ) (text : List ℕ) (r : ℕ) (out : List ℕ) : Type 0 where
  pub place : r ≡ at + length text
  pub is : out ≡ laid d at text

module _ {d : List ℕ} {at : ℕ} where
  pub put_more : {a b : List ℕ} {r s : ℕ} {out last : List ℕ} → at ≤ length d → Put d at a r out → Put out r b s last → Put d at (a ++ b) s last
  put_more {a} {b} h p q = record {
    place = omega (arith, p.place, q.place, length-append a b);
    is = q.is ∙ (λ i. laid (p.is i) (p.place i) b) ∙ laid_on d at a b h;
  }

  -- The four texts of a line.
  pub line_put : (number count : ℕ) {r : ℕ} {out : List ℕ} → Put d at (decimal number ++ (32 ∷ []) ++ decimal count ++ (10 ∷ [])) r out →
      Put d at (line_of number count) r out
  line_put number count {r} {out} p = subst (λ (t : List ℕ). Put d at t r out) (line_texts number count) p
