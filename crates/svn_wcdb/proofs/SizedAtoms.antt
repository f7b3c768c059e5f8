-- Atoms by the number of their bytes, read.
use Rattle.std.proofs.Common.{◌≡◌, ℕ, ◌+◌, ◌^◌, ◌<◌, ◌≤◌, true, false, List, [], ◌∷◌, ◌++◌, length, take, drop, Some, refl, ap, ◌∙◌, arith, add-one, decimal, length-append, nat_eq}
use Rattle.std.specs.List.{list_all}
use Rattle.std.proofs.Math.Seq.{take-append_seam, drop-append_seam}
use Rattle.std.proofs.lemmas.Bool.{and_parts, le-leb}
use Rattle.std.proofs.lemmas.Bool.Decides.{nat_tests}
use Rattle.svn_types.specs.Names.{is_letter}
use Rattle.svn_digits.specs.Numbers.{is_digit, number_of}
use Rattle.svn_digits.proofs.Decimals.{spelled, number_of_decimal}
use Rattle.svn_wcdb.specs.declared.skel.Run.TheVariants.{Digits}
use Rattle.svn_wcdb.specs.Skels.{run_len, is_space, is_end, item_at, sized, sized_at}

digit_is_no_space : (d : ℕ) → is_digit d ≡ true → is_space d ≡ false
digit_is_no_space d h = grind (arith, nat_tests)

digit_is_no_close : (d : ℕ) → is_digit d ≡ true → nat_eq d 41 ≡ false
digit_is_no_close d h = grind (arith, nat_tests)

digit_is_no_letter : (d : ℕ) → is_digit d ≡ true → is_letter d ≡ false
digit_is_no_letter d h = grind (arith, nat_tests)

digits_run : (digits rest : List ℕ) → list_all is_digit digits ≡ true → run_len Digits (digits ++ 32 ∷ rest) ≡ length digits
digits_run [] rest all = refl
digits_run (d ∷ digits) rest all =
    let both = and_parts (is_digit d) (list_all is_digit digits) all in
    rw both.0 (ap (λ n. n + 1) (digits_run digits rest both.1) ∙ add-one (length digits))

-- digits and a space begin as many bytes
sized_read : (n : ℕ) (digits rest : List ℕ) → list_all is_digit digits ≡ true → number_of digits ≡ Some n
    → sized_at (digits ++ 32 ∷ rest) ≡ sized (Some n) (32 ∷ rest)
sized_read n digits rest all is =
    let bytes : List ℕ = digits ++ 32 ∷ rest in
    ap (λ k. sized (number_of (take k bytes)) (drop k bytes)) (digits_run digits rest all)
    ∙ (λ i. sized (number_of (take-append_seam digits (32 ∷ rest) i)) (drop-append_seam digits (32 ∷ rest) i))
    ∙ ap (λ o. sized o (32 ∷ rest)) is

item_read : (n : ℕ) (digits rest : List ℕ) → 1 ≤ length digits → list_all is_digit digits ≡ true → number_of digits ≡ Some n
    → item_at (32 ∷ (digits ++ 32 ∷ rest)) ≡ sized (Some n) (32 ∷ rest)
item_read n [] rest some all is = absurd (omega (arith, some))
item_read n (d ∷ digits) rest some all is =
    let first = (and_parts (is_digit d) (list_all is_digit digits) all).0 in
    rw (digit_is_no_space d first, digit_is_no_letter d first) (sized_read n (d ∷ digits) rest all is)

whole_sized : (atom rest : List ℕ) → sized (Some (length atom)) (32 ∷ (atom ++ rest)) ≡ Some (atom, rest)
whole_sized atom rest =
    rw (le-leb (length atom) (length (atom ++ rest)) (omega (arith, length-append atom rest)))
    (λ i. Some (take-append_seam atom rest i, drop-append_seam atom rest i))

pub sized_atom_read : (atom rest : List ℕ) → length atom < 2 ^ 64 → item_at (32 ∷ (decimal (length atom) ++ 32 ∷ (atom ++ rest))) ≡ Some (atom, rest)
sized_atom_read atom rest small =
    let s = spelled (length atom) small in
    item_read (length atom) (decimal (length atom)) (atom ++ rest) s.some s.all_digits (number_of_decimal (length atom) small) ∙ whole_sized atom rest

-- the number of its bytes doesn't end a list
no_end : (digits rest : List ℕ) → 1 ≤ length digits → list_all is_digit digits ≡ true → is_end (32 ∷ (digits ++ 32 ∷ rest)) ≡ false
no_end [] rest some all = absurd (omega (arith, some))
no_end (d ∷ digits) rest some all =
    let first = (and_parts (is_digit d) (list_all is_digit digits) all).0 in
    rw (digit_is_no_space d first, digit_is_no_close d first) refl

pub sized_atom_is_no_end : (atom rest : List ℕ) → length atom < 2 ^ 64 → is_end (32 ∷ (decimal (length atom) ++ 32 ∷ (atom ++ rest))) ≡ false
sized_atom_is_no_end atom rest small =
    let s = spelled (length atom) small in
    no_end (decimal (length atom)) (atom ++ rest) s.some s.all_digits
