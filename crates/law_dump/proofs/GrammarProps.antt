-- Property sections that are read are by the grammar, and those of the grammar are read.
use Rattle.std.proofs.Common.{◌≡◌, inl, inr, ℕ, arith, zero, suc, ◌+◌, Bool, true, false, cond, ◌&&◌, List, [], ◌∷◌, ◌++◌, length, take, drop, Option, Some, None, Ok, Err, refl, sym, ap, ap₂, subst, ◌∙◌, append_assoc, nat_eq, nat_lt, get_or, codes, IsSome, true≢false, nat_le, length-append, ◌≤◌}
use Rattle.std.specs.List.{AllByRecursion, list_all}
use Rattle.std.specs.Prelude.{slice_index}
use Rattle.std.proofs.Math.Seq.{take-append_seam, drop-append-add, get_or-append_seam}
use Rattle.std.proofs.lemmas.Bool.{eqb-true, ltb-true, ltb-false, lt-ltb, le-ltb, ne_eqb, and_parts}
use Rattle.std.proofs.lemmas.Bool.Decides.{nat_tests}
use Rattle.std.proofs.lemmas.Option.{none-some, same_Some}
use Rattle.svn_lists.proofs.Equality.{same_bytes}
use Rattle.svn_lists.proofs.Options.{some-none, cond_none}
use Rattle.svn_lists.proofs.Parts.{cut_at}
use Rattle.svn_types.specs.declared.fault.PathFault.{PathFault}
use Rattle.svn_types.specs.declared.fault.PathFault.TheVariants.{EmptyComponent, NameTooLong, BadCharacter}
use Rattle.svn_types.specs.Names.{IsPropName, name_limit, is_prop_text}
use Rattle.svn_types.specs.NameFaults.{prop_name_fault}
use Rattle.svn_types.specs.Props.{PropChange, with_changes}
use Rattle.svn_digits.specs.Numbers.{number_of, is_digit, has_bytes, fitting, decimal_value}
use Rattle.svn_dump.specs.declared.fault.Reason.TheVariants.{NotProperties}
use Rattle.svn_dump.specs.declared.record.PropSection.{PropSection}
use Rattle.svn_dump.specs.declared.record.PropSection.TheVariants as props
use Rattle.svn_dump.specs.Reading.{◌>>=◌}
use Rattle.svn_dump.specs.Properties.{length_of, cut_line, run_at, named, set_at, change_at, is_end, changes_at, changes_of, props_of}
use Rattle.svn_dump.specs.Sections.{prop_section_of}
use Rattle.law_dump.specs.Grammar.{IsNumber, IsRun, IsChange, IsChanges, IsPropsOf}
use Rattle.law_dump.proofs.Lacking.{lacks, cut, parts_at, no_parts}
use Rattle.law_dump.proofs.Choices.{chosen, bound_ok, err_ok, ok_same, read_same}

-- ---- runs

-- so many bytes and a line feed
line_cut : (bytes : List ℕ) (n : ℕ) (content rest : List ℕ) → cut_line bytes (Some n) ≡ Some (content, rest)
    → (bytes ≡ content ++ 10 ∷ rest) × (length content ≡ n)
line_cut bytes n content rest h = by (nat_lt n (length bytes) && nat_eq (slice_index bytes n) 10) refl h
  where
    by : (b : Bool) → (nat_lt n (length bytes) && nat_eq (slice_index bytes n) 10) ≡ b
        → cond {A = Option (List ℕ × List ℕ)} b (Some (take n bytes, drop (n + 1) bytes)) None ≡ Some (content, rest)
        → (bytes ≡ content ++ 10 ∷ rest) × (length content ≡ n)
    by false e k = absurd (none-some (content, rest) k)
    by true e k =
        let tests = and_parts (nat_lt n (length bytes)) (nat_eq (slice_index bytes n) 10) e in
        let c = cut_at n bytes (ltb-true n (length bytes) tests.0) in
        let front = c.0 in
        let parts : bytes ≡ front ++ c.1 ∷ c.2 = c.3 in
        let long : length front ≡ n = c.4 in
        let same = same_Some (take n bytes, drop (n + 1) bytes) (content, rest) k in
        let front_is : take n bytes ≡ front =
        ap₂ (λ (m : ℕ) (l : List ℕ). take m l) (sym long) parts ∙ take-append_seam front (c.1 ∷ c.2) in
        let back_is : drop (n + 1) bytes ≡ c.2 =
        ap₂ (λ (m : ℕ) (l : List ℕ). drop (m + 1) l) (sym long) parts ∙ drop-append-add front (c.1 ∷ c.2) 1 in
        let feed : c.1 ≡ 10 =
        sym (ap₂ (λ (m : ℕ) (l : List ℕ). get_or l m 0) (sym long) parts ∙ get_or-append_seam front c.1 c.2 0)
        ∙ eqb-true (slice_index bytes n) 10 tests.1 in
        let content_is : content ≡ front = sym (ap (λ (p : List ℕ × List ℕ). p.0) same) ∙ front_is in
        let rest_is : rest ≡ c.2 = sym (ap (λ (p : List ℕ × List ℕ). p.1) same) ∙ back_is in (
          parts ∙ ap (λ (x : ℕ). front ++ x ∷ c.2) feed ∙ ap₂ (λ (x y : List ℕ). x ++ 10 ∷ y) (sym content_is) (sym rest_is),
          ap length content_is ∙ long,
        )

record Numbered (letter : ℕ) (l : List ℕ) (n : ℕ) : Type 0 where
  digits : List ℕ
  parts : l ≡ letter ∷ 32 ∷ digits
  number : IsNumber digits n

numbered : (letter : ℕ) (l : List ℕ) (n : ℕ) → length_of letter l ≡ Some n → Numbered letter l n
numbered letter [] n h = absurd (none-some n h)
numbered letter (b ∷ []) n h = absurd (none-some n h)
numbered letter (b ∷ c ∷ digits) n h = by (nat_eq b letter && nat_eq c 32) refl h
  where
    by : (same : Bool) → (nat_eq b letter && nat_eq c 32) ≡ same → cond same (number_of digits) None ≡ Some n
        → Numbered letter (b ∷ c ∷ digits) n
    by false e k = absurd (none-some n k)
    by true e k =
        let tests = and_parts (nat_eq b letter) (nat_eq c 32) e in
        record {
          digits = digits;
          parts = ap₂ (λ (x y : ℕ). x ∷ y ∷ digits) (eqb-true b letter tests.0) (eqb-true c 32 tests.1);
          number = k;
        }

record RunIn (letter : ℕ) (bytes content rest : List ℕ) : Type 0 where
  front : List ℕ
  parts : bytes ≡ front ++ rest
  is : IsRun letter front content

run_in : (letter : ℕ) (bytes content rest : List ℕ) → run_at letter bytes ≡ Some (content, rest) → RunIn letter bytes content rest
run_in letter bytes content rest h = elim (cut 10 bytes) [
  | inl none ↦ absurd (none-some (content, rest) (sym (no_parts 10 (λ line below. cut_line below (length_of letter line)) bytes none) ∙ h))
  | inr c ↦
      with_length c.front c.back c.parts (length_of letter c.front) refl
      (sym (ap (run_at letter) c.parts ∙ parts_at 10 (λ line below. cut_line below (length_of letter line)) c.front c.back c.plain) ∙ h)
]
  where
    with_length : (front back : List ℕ) → bytes ≡ front ++ 10 ∷ back → (o : Option ℕ) → length_of letter front ≡ o
        → cut_line back o ≡ Some (content, rest) → RunIn letter bytes content rest
    with_length front back parts None e k = absurd (none-some (content, rest) k)
    with_length front back parts (Some n) e k =
        let number = numbered letter front n e in
        let below = line_cut back n content rest k in
        let head = letter ∷ 32 ∷ number.digits in
        record {
          front = head ++ 10 ∷ (content ++ 10 ∷ []);
          parts =
              parts ∙ ap₂ (λ (x y : List ℕ). x ++ 10 ∷ y) number.parts (below.0 ∙ sym (append_assoc content (10 ∷ []) rest))
              ∙ sym (append_assoc head (10 ∷ (content ++ 10 ∷ [])) rest);
          is = (number.digits, refl, subst (IsNumber number.digits) (sym below.1) number.number);
        }

-- ---- names

lawful_name : (name : List ℕ) → prop_name_fault name ≡ None → IsPropName name
lawful_name name h =
    let long = nat_lt name_limit (length name) in
    let text = is_prop_text name in
    let some = cond_none (nat_eq (length name) 0) EmptyComponent (cond long (Some NameTooLong) (cond text None (Some BadCharacter))) h in
    let short = cond_none long NameTooLong (cond text None (Some BadCharacter)) some.1 in
    record { bounded = ltb-false name_limit (length name) short.0; text = plain text short.1 }
  where
    plain : (b : Bool) → cond b None (Some BadCharacter) ≡ None → b ≡ true
    plain true k = refl
    plain false k = absurd (some-none BadCharacter k)

named_ok : (fault : Option PathFault) (name n : List ℕ) → named fault name ≡ Ok n → (fault ≡ None) × (name ≡ n)
named_ok None name n h = (refl, ok_same name n h)
named_ok (Some e) name n h = cc

-- ---- one change

record ChangeIn (removes : Bool) (bytes : List ℕ) (c : PropChange) (rest : List ℕ) : Type 0 where
  front : List ℕ
  parts : bytes ≡ front ++ rest
  is : IsChange front c.0 c.1
  sets : removes ≡ false → IsSome c.1

set_in : (removes : Bool) (bytes : List ℕ) (c : PropChange) (rest : List ℕ) → set_at (run_at 75 bytes) ≡ Ok (c, rest) → ChangeIn removes bytes c rest
set_in removes bytes c rest h = with_name (run_at 75 bytes) refl h
  where
    with_value : (name below : List ℕ) → run_at 75 bytes ≡ Some (name, below) → (value : Option (List ℕ × List ℕ)) → run_at 86 below ≡ value
        → set_at (Some (name, below)) ≡ Ok (c, rest) → ChangeIn removes bytes c rest
    with_value name below e None f h =
        let fault : set_at (Some (name, below)) ≡ Err NotProperties = rw f refl in
        absurd (err_ok NotProperties (c, rest) (sym fault ∙ h))
    with_value name below e (Some value) f h =
        let goes_on : set_at (Some (name, below)) ≡ (named (prop_name_fault name) name >>= λ n. Ok ((n, Some value.0), value.1)) = rw f refl in
        let ok = bound_ok (named (prop_name_fault name) name) (λ n. Ok ((n, Some value.0), value.1)) (c, rest) (sym goes_on ∙ h) in
        let lawful = named_ok (prop_name_fault name) name ok.0 ok.1 in
        let same = read_same ((ok.0, Some value.0), value.1) (c, rest) ok.2 in
        let change : (name, Some value.0) ≡ c = ap (λ (n : List ℕ). (n, Some value.0)) lawful.1 ∙ same.0 in
        let key = run_in 75 bytes name below e in
        let run = run_in 86 below value.0 value.1 f in
        let is : IsChange (key.front ++ run.front) name (Some value.0) =
        (lawful_name name lawful.0, key.front, run.front, refl, key.is, run.is) in
        record {
          front = key.front ++ run.front;
          parts =
              key.parts ∙ ap (λ (l : List ℕ). key.front ++ l) (run.parts ∙ ap (λ (l : List ℕ). run.front ++ l) same.1)
              ∙ sym (append_assoc key.front run.front rest);
          is = subst (λ (c : PropChange). IsChange (key.front ++ run.front) c.0 c.1) change is;
          sets = λ _. subst (λ (c : PropChange). IsSome c.1) change refl;
        }

    with_name : (name : Option (List ℕ × List ℕ)) → run_at 75 bytes ≡ name → set_at name ≡ Ok (c, rest) → ChangeIn removes bytes c rest
    with_name None e h = absurd (err_ok NotProperties (c, rest) h)
    with_name (Some name) e h = with_value name.0 name.1 e (run_at 86 name.1) refl h

change_in : (removes : Bool) (bytes : List ℕ) (c : PropChange) (rest : List ℕ) → change_at removes bytes ≡ Ok (c, rest) → ChangeIn removes bytes c rest
change_in false bytes c rest h = set_in false bytes c rest h
change_in true bytes c rest h = with_name (run_at 68 bytes) refl h
  where
    with_name : (name : Option (List ℕ × List ℕ)) → run_at 68 bytes ≡ name → change_at true bytes ≡ Ok (c, rest) → ChangeIn true bytes c rest
    with_name None e h =
        let sets : change_at true bytes ≡ set_at (run_at 75 bytes) = rw e refl in
        set_in true bytes c rest (sym sets ∙ h)
    with_name (Some name) e h =
        let goes_on : change_at true bytes ≡ (named (prop_name_fault name.0) name.0 >>= λ n. Ok ((n, None), name.1)) = rw e refl in
        let ok = bound_ok (named (prop_name_fault name.0) name.0) (λ n. Ok ((n, None), name.1)) (c, rest) (sym goes_on ∙ h) in
        let lawful = named_ok (prop_name_fault name.0) name.0 ok.0 ok.1 in
        let same = read_same ((ok.0, None), name.1) (c, rest) ok.2 in
        let change : (name.0, None) ≡ c = ap (λ (n : List ℕ). (n, None)) lawful.1 ∙ same.0 in
        let run = run_in 68 bytes name.0 name.1 e in
        let is : IsChange run.front name.0 None = (lawful_name name.0 lawful.0, run.is) in
        record {
          front = run.front;
          parts = run.parts ∙ ap (λ (l : List ℕ). run.front ++ l) same.1;
          is = subst (λ (c : PropChange). IsChange run.front c.0 c.1) change is;
          sets = λ false_is. absurd (true≢false false_is);
        }

-- ---- all changes

record ChangesIn (removes : Bool) (bytes : List ℕ) (changes : List PropChange) : Type 0 where
  are : IsChanges bytes changes
  set : removes ≡ false → AllByRecursion (λ (c : PropChange). IsSome c.1) changes

changes_in : (most : ℕ) (removes : Bool) (bytes : List ℕ) (changes : List PropChange) → changes_at removes most bytes ≡ Ok changes
    → ChangesIn removes bytes changes
unfolding changes_at
changes_in zero removes bytes changes h = absurd (err_ok NotProperties changes h)
changes_in (suc most) removes bytes changes h =
    let more = change_at removes bytes >>= λ first. changes_at removes most first.1 >>= λ more. Ok (first.0 ∷ more) in
    elim (chosen (is_end bytes) (Ok []) more (Ok changes) h) [
      | inl end ↦
          subst (ChangesIn removes bytes) (ok_same [] changes end.1)
          (record { are = same_bytes bytes (codes "PROPS-END\n") end.0; set = λ _. tt })
      | inr on ↦ (
          let first =
          bound_ok (change_at removes bytes) (λ first. changes_at removes most first.1 >>= λ more. Ok (first.0 ∷ more)) changes on.1 in
          let after = bound_ok (changes_at removes most first.0.1) (λ more. Ok (first.0.0 ∷ more)) changes first.2 in
          let one = change_in removes bytes first.0.0 first.0.1 first.1 in
          let rest = changes_in most removes first.0.1 after.0 after.1 in
          subst (ChangesIn removes bytes) (ok_same (first.0.0 ∷ after.0) changes after.2)
          (record { are = (one.front, first.0.1, one.parts, one.is, rest.are); set = λ e. (one.sets e, rest.set e) })
          )
    ]

-- ---- sections

pub props_in : (flag : Bool) (bytes : List ℕ) (section : PropSection) → prop_section_of flag bytes ≡ Ok section → IsPropsOf flag bytes section
props_in true bytes section h =
    let all = bound_ok (changes_of bytes) (λ changes. Ok (props.Delta changes)) section h in
    subst (IsPropsOf true bytes) (ok_same (props.Delta all.0) section all.2) (changes_in (length bytes) true bytes all.0 all.1).are
props_in false bytes section h =
    let all = bound_ok (props_of bytes) (λ all. Ok (props.Whole all)) section h in
    let changes = bound_ok (changes_at false (length bytes) bytes) (λ changes. Ok (with_changes [] changes)) all.0 all.1 in
    let found = changes_in (length bytes) false bytes changes.0 changes.1 in
    subst (IsPropsOf false bytes) (ok_same (props.Whole all.0) section all.2)
    (changes.0, found.are, found.set refl, sym (ok_same (with_changes [] changes.0) all.0 changes.2))

-- ---- runs of the grammar are read

-- a number that is spelled has no line feed
digits_lack : (digits : List ℕ) (n : ℕ) → number_of digits ≡ Some n → lacks 10 digits ≡ true
digits_lack digits n h = by (has_bytes digits && nat_le (length digits) 20) (list_all is_digit digits) refl h
  where
    each : (digits : List ℕ) → list_all is_digit digits ≡ true → lacks 10 digits ≡ true
    each [] e = refl
    each (b ∷ digits) e =
        let parts = and_parts (is_digit b) (list_all is_digit digits) e in
        rw (no_feed b parts.0) (each digits parts.1)
      where
        no_feed : (b : ℕ) → is_digit b ≡ true → nat_eq b 10 ≡ false
        no_feed b e = grind (arith, nat_tests)

    by : (some all : Bool) → list_all is_digit digits ≡ all
        → cond (some && all) (fitting (decimal_value digits)) None ≡ Some n → lacks 10 digits ≡ true
    by true true e k = each digits e
    by true false e k = absurd (none-some n k)
    by false all e k = absurd (none-some n k)

-- whatever letter is looked for
run_line : (wanted letter : ℕ) (run content rest : List ℕ) → nat_eq letter 10 ≡ false → IsRun letter run content
    → run_at wanted (run ++ rest) ≡ cut_line (content ++ 10 ∷ rest) (cond (nat_eq letter wanted && true) (Some (length content)) None)
run_line wanted letter run content rest other is =
    let head = letter ∷ 32 ∷ is.0 in
    let after = content ++ 10 ∷ rest in
    let plain : lacks 10 head ≡ true = rw other (digits_lack is.0 (length content) is.2) in
    ap (λ (l : List ℕ). run_at wanted (l ++ rest)) is.1
    ∙ ap (run_at wanted)
    (append_assoc head (10 ∷ (content ++ 10 ∷ [])) rest ∙ ap (λ (l : List ℕ). head ++ 10 ∷ l) (append_assoc content (10 ∷ []) rest))
    ∙ parts_at 10 (λ line below. cut_line below (length_of wanted line)) head after plain
    ∙ ap (λ n. cut_line after (cond (nat_eq letter wanted && true) n None)) is.2

cut_at_line : (bytes rest : List ℕ) → cut_line (bytes ++ 10 ∷ rest) (Some (length bytes)) ≡ Some (bytes, rest)
cut_at_line bytes rest =
    let longer = lt-ltb (length bytes) (length (bytes ++ 10 ∷ rest)) (omega (arith, length-append bytes (10 ∷ rest))) in
    rw (longer, get_or-append_seam bytes 10 rest 0, take-append_seam bytes (10 ∷ rest), drop-append-add bytes (10 ∷ rest) 1) refl

run_given : (letter : ℕ) (run content rest : List ℕ) → nat_eq letter 10 ≡ false → nat_eq letter letter ≡ true → IsRun letter run content
    → run_at letter (run ++ rest) ≡ Some (content, rest)
run_given letter run content rest other own is =
    run_line letter letter run content rest other is
    ∙ ap (λ b. cut_line (content ++ 10 ∷ rest) (cond (b && true) (Some (length content)) None)) own ∙ cut_at_line content rest

other_run : (wanted letter : ℕ) (run content rest : List ℕ) → nat_eq letter 10 ≡ false → nat_eq letter wanted ≡ false → IsRun letter run content
    → run_at wanted (run ++ rest) ≡ None
other_run wanted letter run content rest other apart is =
    run_line wanted letter run content rest other is
    ∙ ap (λ b. cut_line (content ++ 10 ∷ rest) (cond (b && true) (Some (length content)) None)) apart

run_begins : (letter : ℕ) (run content rest : List ℕ) → nat_eq letter 80 ≡ false → IsRun letter run content → is_end (run ++ rest) ≡ false
run_begins letter run content rest other is = ap (λ (l : List ℕ). is_end (l ++ rest)) is.1 ∙ rw other refl

run_some : (letter : ℕ) (run content : List ℕ) → IsRun letter run content → 1 ≤ length run
run_some letter run content is =
    let long = ap length is.1 in omega (arith, long, length-append (letter ∷ 32 ∷ is.0) (10 ∷ (content ++ 10 ∷ [])))

-- ---- changes of the grammar are read

pub no_prop_name_fault : (n : List ℕ) → IsPropName n → prop_name_fault n ≡ None
no_prop_name_fault n h = some n h.bounded h.text
  where
    some : (n : List ℕ) → length n ≤ name_limit → is_prop_text n ≡ true → prop_name_fault n ≡ None
    some [] few text = cc
    some (b ∷ n) few text =
        let long : nat_eq (length (b ∷ n)) 0 ≡ false = ne_eqb (length (b ∷ n)) 0 (λ none. omega (arith, none)) in
        rw (long, le-ltb name_limit (length (b ∷ n)) few, text) refl

-- what is read of a change, whatever follows
record ReadsAs (removes : Bool) (bytes : List ℕ) (c : PropChange) : Type 0 where
  change : (rest : List ℕ) → change_at removes (bytes ++ rest) ≡ Ok (c, rest)
  no_end : (rest : List ℕ) → is_end (bytes ++ rest) ≡ false
  some : 1 ≤ length bytes

set_given : (key run name value rest : List ℕ) → IsPropName name → IsRun 75 key name → IsRun 86 run value
    → set_at (run_at 75 ((key ++ run) ++ rest)) ≡ Ok ((name, Some value), rest)
set_given key run name value rest lawful k v =
    let first = ap (run_at 75) (append_assoc key run rest) ∙ run_given 75 key name (run ++ rest) refl refl k in
    rw (first, run_given 86 run value rest refl refl v, no_prop_name_fault name lawful) refl

set_reads : (removes : Bool) (key run name value : List ℕ) → IsPropName name → IsRun 75 key name → IsRun 86 run value
    → ReadsAs removes (key ++ run) (name, Some value)
set_reads removes key run name value lawful k v = record {
  change = by removes;
  no_end = λ rest. ap is_end (append_assoc key run rest) ∙ run_begins 75 key name (run ++ rest) refl k;
  some = omega (arith, run_some 75 key name k, length-append key run);
}
  where
    by : (removes : Bool) (rest : List ℕ) → change_at removes ((key ++ run) ++ rest) ≡ Ok ((name, Some value), rest)
    by false rest = set_given key run name value rest lawful k v
    by true rest =
        let none = ap (run_at 68) (append_assoc key run rest) ∙ other_run 68 75 key name (run ++ rest) refl refl k in
        rw none (set_given key run name value rest lawful k v)

removal_reads : (bytes name : List ℕ) → IsChange bytes name None → ReadsAs true bytes (name, None)
removal_reads bytes name h = record {
  change = λ rest. rw (run_given 68 bytes name rest refl refl h.1, no_prop_name_fault name h.0) refl;
  no_end = λ rest. run_begins 68 bytes name rest refl h.1;
  some = run_some 68 bytes name h.1;
}

-- a change that the section may have
change_reads : (removes : Bool) (bytes name : List ℕ) (value : Option (List ℕ)) → (removes ≡ false → IsSome value) → IsChange bytes name value
    → ReadsAs removes bytes (name, value)
change_reads true bytes name None sets h = removal_reads bytes name h
change_reads false bytes name None sets h = absurd (true≢false (sym (sets refl)))
change_reads removes bytes name (Some value) sets h =
    subst (λ (l : List ℕ). ReadsAs removes l (name, Some value)) (sym h.3) (set_reads removes h.1 h.2 name value h.0 h.4 h.5)

changes_given : (changes : List PropChange) (removes : Bool) (most : ℕ) (bytes : List ℕ) → IsChanges bytes changes
    → (removes ≡ false → AllByRecursion (λ (c : PropChange). IsSome c.1) changes) → length bytes ≤ most → changes_at removes most bytes ≡ Ok changes
unfolding changes_at
changes_given [] removes zero bytes h sets few = absurd (omega (arith, few, ap length h))
changes_given [] removes (suc most) bytes h sets few = ap (changes_at removes (suc most)) h
changes_given (c ∷ changes) removes most bytes h sets few =
    by most few (change_reads removes h.0 c.0 c.1 (λ e. (sets e).0) h.3)
    (λ less shorter. changes_given changes removes less h.1 h.4 (λ e. (sets e).1) shorter)
  where
    by : (most : ℕ) → length bytes ≤ most → ReadsAs removes h.0 c
        → ((less : ℕ) → length h.1 ≤ less → changes_at removes less h.1 ≡ Ok changes) → changes_at removes most bytes ≡ Ok (c ∷ changes)
    by zero few r more = absurd (omega (arith, few, r.some, ap length h.2, length-append h.0 h.1))
    by (suc most) few r more =
        let shorter : length h.1 ≤ most = omega (arith, few, r.some, ap length h.2, length-append h.0 h.1) in
        ap (changes_at removes (suc most)) h.2
        ∙ rw (r.no_end h.1, r.change h.1, more most shorter) refl

pub props_given : (flag : Bool) (bytes : List ℕ) (section : PropSection) → IsPropsOf flag bytes section → prop_section_of flag bytes ≡ Ok section
props_given true bytes (props.Delta changes) h =
    ap (λ r. r >>= λ changes. Ok (props.Delta changes))
    (changes_given changes true (length bytes) bytes h (λ e. absurd (true≢false e)) (omega arith))
props_given true bytes (props.Whole all) h = absurd h
props_given false bytes (props.Delta changes) h = absurd h
props_given false bytes (props.Whole all) h =
    ap (λ r. (r >>= λ changes. Ok (with_changes [] changes)) >>= λ all. Ok (props.Whole all))
    (changes_given h.0 false (length bytes) bytes h.1 (λ e. h.2) (omega arith))
    ∙ ap (λ (l : List (List ℕ × List ℕ)). Ok (props.Whole l)) (sym h.3)
