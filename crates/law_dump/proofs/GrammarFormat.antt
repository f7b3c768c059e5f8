-- The first record, which gives the format: by the grammar, and read.
use Rattle.std.proofs.Common.{◌≡◌, ℕ, ◌+◌, ◌≤◌, false, ◌&&◌, List, [], ◌∷◌, ◌++◌, length, Option, Some, None, Ok, refl, sym, ap, subst, ◌∙◌, nat_le, codes}
use Rattle.std.proofs.lemmas.Bool.{and_parts, leb-true, le-leb}
use Rattle.std.proofs.lemmas.Option.{none-some}
use Rattle.svn_digits.specs.Numbers.{number_of}
use Rattle.svn_dump.specs.declared.fault.Reason.TheVariants.{NotADump, NotANumber, Version}
use Rattle.svn_dump.specs.declared.sections.Limits.{Limits}
use Rattle.svn_dump.specs.Blocks.{block_at}
use Rattle.svn_dump.specs.Headers.{header_value}
use Rattle.svn_dump.specs.Fields.{number_or_fault, as_number, number_value}
use Rattle.svn_dump.specs.Records.{format_of, format_value, format_at}
use Rattle.law_dump.specs.Grammar.{ended, begins_blank, IsNumber, IsFormat}
use Rattle.law_dump.proofs.Choices.{ok_first, bound_ok, err_ok, ok_same, read_same}
use Rattle.law_dump.proofs.GrammarBlocks.{Block, block_found}
use Rattle.law_dump.proofs.GrammarHeaders.{line_gives, line_given, lines_given}

abbrev name : List ℕ
name = codes "SVN-fs-dump-format-version"

-- ---- what is read is by the grammar

record FormatIn (block : List ℕ) (format : ℕ) : Type 0 where
  digits : List ℕ
  read : header_value block name ≡ Ok (Some digits)
  number : IsNumber digits format
  low : 2 ≤ format
  high : format ≤ 3

supported : (n format : ℕ) → format_of (Some n) ≡ Ok format → (n ≡ format) × (2 ≤ n) × (n ≤ 3)
supported n format h =
    let test = nat_le 2 n && nat_le n 3 in
    let ok = ok_first test (Ok n) (Version n) format h in
    let parts = and_parts (nat_le 2 n) (nat_le n 3) ok.0 in
    (ok_same n format ok.1, leb-true 2 n parts.0, leb-true n 3 parts.1)

format_in : (block : List ℕ) (format : ℕ) → format_value block ≡ Ok format → FormatIn block format
format_in block format h =
    let number = bound_ok (number_value block name) format_of format h in
    let value = bound_ok (header_value block name) as_number number.0 number.1 in
    by number.0 value.0 value.1 value.2 number.2
  where
    spelled : (digits : List ℕ) (o : Option ℕ) (n : ℕ) → number_of digits ≡ o → number_or_fault o ≡ Ok (Some n) → IsNumber digits n
    spelled digits None n e k = absurd (err_ok NotANumber (Some n) k)
    spelled digits (Some m) n e k = e ∙ ok_same (Some m) (Some n) k

    by : (o : Option ℕ) (value : Option (List ℕ)) → header_value block name ≡ Ok value → as_number value ≡ Ok o → format_of o ≡ Ok format
        → FormatIn block format
    by None value read k m = absurd (err_ok NotADump format m)
    by (Some n) None read k m = absurd (none-some n (ok_same None (Some n) k))
    by (Some n) (Some digits) read k m =
        let f = supported n format m in
        subst (FormatIn block) f.0
        (record { digits = digits; read = read; number = spelled digits (number_of digits) n refl k; low = f.1; high = f.2 })

pub format_found : (limits : Limits) (bytes : List ℕ) (format : ℕ) (rest : List ℕ) → format_at limits bytes ≡ Ok (format, rest)
    → IsFormat bytes format rest
unfolding format_at
format_found limits bytes format rest h =
    let block = bound_ok (block_at false limits.headers bytes) _ _ h in
    let value = bound_ok (format_value block.0.0) (λ f. Ok (f, block.0.1)) (format, rest) block.2 in
    let same = read_same (value.0, block.0.1) (format, rest) value.2 in
    by block.0.0 (block.1 ∙ ap (λ (l : List ℕ). Ok (block.0.0, l)) same.1) (value.1 ∙ ap (λ (n : ℕ). Ok n) same.0)
  where
    of_lines : (block : List ℕ) → Block bytes block rest → format_value block ≡ Ok format → IsFormat bytes format rest
    of_lines block b k =
        let f = format_in (ended b.lines) format (sym (ap format_value b.block_is) ∙ k) in
        record {
          blank = b.blank;
          lines = b.lines;
          parts = b.parts ∙ ap (λ (l : List ℕ). ended b.blank ++ (l ++ 10 ∷ rest)) b.block_is;
          blank_is = b.blank_is;
          whole = b.whole;
          begins = sym (ap begins_blank b.block_is) ∙ b.begins;
          digits = f.digits;
          line_is = line_gives name refl b.lines b.whole f.digits f.read;
          number = f.number;
          low = f.low;
          high = f.high;
        }

    by : (block : List ℕ) → block_at false limits.headers bytes ≡ Ok (block, rest) → format_value block ≡ Ok format → IsFormat bytes format rest
    by [] e k = absurd (err_ok NotADump format k)
    by (b ∷ block) e k = of_lines (b ∷ block) (block_found bytes false limits.headers b block rest e) k

-- ---- what is by the grammar is read

pub format_given : (limits : Limits) (bytes : List ℕ) (format : ℕ) (rest : List ℕ) (f : IsFormat bytes format rest)
    → length (ended f.blank) + length (ended f.lines) ≤ limits.headers → format_at limits bytes ≡ Ok (format, rest)
unfolding format_at
format_given limits bytes format rest f fits =
    let block =
    ap (block_at false limits.headers) f.parts ∙ lines_given limits.headers f.blank f.lines rest f.blank_is f.whole f.begins fits in
    let value = line_given name refl f.lines f.whole f.digits f.line_is in
    rw (block, value, f.number, le-leb 2 format f.low, le-leb format 3 f.high) refl
