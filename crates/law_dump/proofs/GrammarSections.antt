-- The sections that are read are by the grammar, and those of the grammar are read.
use Rattle.std.proofs.Common.{◌≡◌, ℕ, ◌≤◌, Bool, true, false, cond, not, List, [], ◌∷◌, ◌++◌, length, take, drop, Option, Some, None, Ok, Err, option_map, unwrap_or, IfSome, refl, sym, ap, ap₂, subst, ◌∙◌, arith, nat_lt, true≢false, MatchOption, bytes_eq, length-append}
use Rattle.std.proofs.lemmas.Bool.{ltb-false, le-ltb}
use Rattle.std.proofs.Math.Seq.{take-append_seam, drop-append_seam}
use Rattle.std.proofs.lemmas.List.{take-append-drop, length-take-le}
use Rattle.md5.specs.Md5.{md5}
use Rattle.sha1.specs.Sha1.{sha1}
use Rattle.svn_lists.proofs.Equality.{same_bytes, bytes_eq-same}
use Rattle.svn_digits.specs.StandIns.{stand_in_of, stand_in_of_md5}
use Rattle.svn_dump.specs.declared.fault.Reason.{Reason}
use Rattle.svn_dump.specs.declared.fault.Reason.TheVariants.{CutOff, PropsTooLong, TextTooLong, NoSha1, NoMd5, WrongMd5, WrongSha1}
use Rattle.svn_dump.specs.declared.record.PropSection.{PropSection}
use Rattle.svn_dump.specs.declared.record.TextSection.{TextSection}
use Rattle.svn_dump.specs.declared.record.TextSection.TheVariants as text
use Rattle.svn_dump.specs.declared.sections.Texts.{Texts}
use Rattle.svn_dump.specs.declared.sections.Texts.TheVariants.{Whole, Sha1, Md5}
use Rattle.svn_dump.specs.Reading.{◌>>=◌}
use Rattle.svn_dump.specs.Blocks.{bytes_at}
use Rattle.svn_dump.specs.Sections.{Read, if_given, skipped, after_sections, is_given_as, checked, kept, whole_text_at, stand_in_at, prop_section_of, sized_props_at, sized_text_at}
use Rattle.law_dump.specs.Laws.{CanKeep, kept_section}
use Rattle.law_dump.specs.Grammar.{Sums, IsPropsOf, IsTextOf, IsGiven}
use Rattle.law_dump.proofs.Choices.{ok_second, bound_ok, ok_same, read_same}
use Rattle.law_dump.proofs.GrammarProps.{props_in, props_given}

-- ---- so many bytes

pub record Front (count : ℕ) (bytes front rest : List ℕ) : Type 0 where
  pub parts : bytes ≡ front ++ rest
  pub long : length front ≡ count

pub front_read : (count : ℕ) (bytes front rest : List ℕ) → bytes_at count bytes ≡ Ok (front, rest) → Front count bytes front rest
front_read count bytes front rest h =
    let enough = ok_second (nat_lt (length bytes) count) CutOff (Ok (take count bytes, drop count bytes)) (front, rest) h in
    let same = read_same (take count bytes, drop count bytes) (front, rest) enough.1 in
    record {
      parts = sym (take-append-drop count bytes) ∙ ap₂ (λ (x y : List ℕ). x ++ y) same.0 same.1;
      long = sym (ap length same.0) ∙ length-take-le count bytes (ltb-false (length bytes) count enough.0);
    }

-- ---- a section that may be there

-- its bytes, and what it says
pub record Section {A : Type 0} (Is : List ℕ → A → Type 0) (len : Option ℕ) (bytes : List ℕ) (o : Option A) (rest : List ℕ) : Type 0 where
  pub own : Option (List ℕ)
  pub long : option_map length own ≡ len
  pub parts : bytes ≡ unwrap_or own [] ++ rest
  pub is : IsGiven Is own o

pub section_read : {A : Type 0} (Is : List ℕ → A → Type 0) (at : ℕ → List ℕ → Read A) (len : Option ℕ) (bytes : List ℕ) (o : Option A) (rest : List ℕ)
    → ((n : ℕ) (x : A) → at n bytes ≡ Ok (x, rest) → (own : List ℕ) × Front n bytes own rest × Is own x)
    → if_given len at bytes ≡ Ok (o, rest) → Section Is len bytes o rest
section_read {A} Is at None bytes o rest one h =
    let same = read_same (None, bytes) (o, rest) h in
    subst (λ (o : Option A). Section Is None bytes o rest) same.0 (record { own = None; long = refl; parts = same.1; is = tt })
section_read {A} Is at (Some len) bytes o rest one h =
    let read = bound_ok (at len bytes) (λ read. Ok (Some read.0, read.1)) (o, rest) h in
    let same = read_same (Some read.0.0, read.0.1) (o, rest) read.2 in
    let own = one len read.0.0 (read.1 ∙ ap (λ (l : List ℕ). Ok (read.0.0, l)) same.1) in
    subst (λ (o : Option A). Section Is (Some len) bytes o rest) same.0
    (record { own = Some own.0; long = ap (λ (n : ℕ). Some n) own.1.long; parts = own.1.parts; is = own.2 })

-- ---- sections that are passed over

pub record Passed (props text : Option ℕ) (bytes rest : List ℕ) : Type 0 where
  pub prop_bytes : Option (List ℕ)
  pub text_bytes : Option (List ℕ)
  pub props_long : option_map length prop_bytes ≡ props
  pub text_long : option_map length text_bytes ≡ text
  pub parts : bytes ≡ unwrap_or prop_bytes [] ++ (unwrap_or text_bytes [] ++ rest)

record Skipped (len : Option ℕ) (bytes rest : List ℕ) : Type 0 where
  own : Option (List ℕ)
  long : option_map length own ≡ len
  parts : bytes ≡ unwrap_or own [] ++ rest

skipped_read : (len : Option ℕ) (bytes rest : List ℕ) (done : Unit {0}) → skipped (unwrap_or len 0) bytes ≡ Ok (done, rest) → Skipped len bytes rest
skipped_read len bytes rest done h =
    let read = bound_ok (bytes_at (unwrap_or len 0) bytes) (λ read. Ok (tt, read.1)) (done, rest) h in
    let same = read_same (tt, read.0.1) (done, rest) read.2 in
    by len (front_read (unwrap_or len 0) bytes read.0.0 rest (read.1 ∙ ap (λ (l : List ℕ). Ok (read.0.0, l)) same.1))
  where
    nothing : (front : List ℕ) → length front ≡ 0 → front ≡ []
    nothing [] e = refl
    nothing (b ∷ front) e = absurd (omega (arith, e))

    by : {front : List ℕ} (len : Option ℕ) → Front (unwrap_or len 0) bytes front rest → Skipped len bytes rest
    by {front = front} None f =
        record { own = None; long = refl; parts = f.parts ∙ ap (λ (l : List ℕ). l ++ rest) (nothing front f.long) }
    by {front = front} (Some n) f = record { own = Some front; long = ap (λ (n : ℕ). Some n) f.long; parts = f.parts }

pub sections_passed : (props text : Option ℕ) (bytes rest : List ℕ) (done : Unit {0})
    → after_sections (record { props = props; text = text }) bytes ≡ Ok (done, rest) → Passed props text bytes rest
sections_passed props text bytes rest done h =
    let first = bound_ok (skipped (unwrap_or props 0) bytes) (λ read. skipped (unwrap_or text 0) read.1) (done, rest) h in
    let one = skipped_read props bytes first.0.1 first.0.0 first.1 in
    let two = skipped_read text first.0.1 rest done first.2 in
    record {
      prop_bytes = one.own;
      text_bytes = two.own;
      props_long = one.long;
      text_long = two.long;
      parts = one.parts ∙ ap (λ (l : List ℕ). unwrap_or one.own [] ++ l) two.parts;
    }

-- ---- properties

pub sized_props_found : (flag : Bool) (limit n : ℕ) (bytes : List ℕ) (section : PropSection) (rest : List ℕ)
    → sized_props_at flag limit n bytes ≡ Ok (section, rest) → (own : List ℕ) × Front n bytes own rest × IsPropsOf flag own section
sized_props_found flag limit n bytes section rest h =
    let all = bytes_at n bytes >>= λ read. prop_section_of flag read.0 >>= λ section. Ok (section, read.1) in
    let short = ok_second (nat_lt limit n) (PropsTooLong n limit) all (section, rest) h in
    let read = bound_ok (bytes_at n bytes) (λ read. prop_section_of flag read.0 >>= λ section. Ok (section, read.1)) (section, rest) short.1 in
    let found = bound_ok (prop_section_of flag read.0.0) (λ section. Ok (section, read.0.1)) (section, rest) read.2 in
    let same = read_same (found.0, read.0.1) (section, rest) found.2 in (
      read.0.0,
      front_read n bytes read.0.0 rest (read.1 ∙ ap (λ (l : List ℕ). Ok (read.0.0, l)) same.1),
      subst (IsPropsOf flag read.0.0) same.0 (props_in flag read.0.0 found.0 found.1),
    )

-- ---- texts

-- the text is kept of one that the grammar gives
pub record KeptText (texts : Texts) (flag : Bool) (base sums : Sums) (own : List ℕ) (t : TextSection) : Type 0 where
  pub whole : TextSection
  pub is : IsTextOf flag base sums own whole
  pub kept_is : t ≡ kept_section texts whole

sum_is : (given : Option (List ℕ)) (sum : List ℕ) → is_given_as given sum ≡ true → IfSome given (λ s. s ≡ sum)
sum_is None sum h = tt
sum_is (Some s) sum h = same_bytes s sum h

record Checked (sums : Sums) (bytes whole : List ℕ) : Type 0 where
  same : bytes ≡ whole
  md5_is : IfSome sums.md5 (λ sum. sum ≡ md5 bytes)
  sha1_is : IfSome sums.sha1 (λ sum. sum ≡ sha1 bytes)

checked_ok : (sums : Sums) (bytes whole : List ℕ) → checked (record { md5 = sums.md5; sha1 = sums.sha1 }) bytes ≡ Ok whole → Checked sums bytes whole
checked_ok sums bytes whole h =
    let first = is_given_as sums.md5 (md5 bytes) in
    let second = is_given_as sums.sha1 (sha1 bytes) in
    let a = ok_second (not first) WrongMd5 (cond (not second) (Err WrongSha1) (Ok bytes)) whole h in
    let b = ok_second (not second) WrongSha1 (Ok bytes) whole a.1 in
    record {
      same = ok_same bytes whole b.1;
      md5_is = sum_is sums.md5 (md5 bytes) (not_false first a.0);
      sha1_is = sum_is sums.sha1 (sha1 bytes) (not_false second b.0);
    }
  where
    not_false : (b : Bool) → not b ≡ false → b ≡ true
    not_false true e = refl
    not_false false e = absurd (true≢false e)

-- the delta with its checksums
abbrev delta_of : Sums → Sums → List ℕ → TextSection
delta_of base sums bytes =
    text.Delta (record { delta = bytes; base_md5 = base.md5; base_sha1 = base.sha1; md5 = sums.md5; sha1 = sums.sha1 })

-- what is kept of the bytes, and the bytes after them
abbrev as_text : (List ℕ → TextSection) → List ℕ × List ℕ → Read TextSection
as_text kept_as read = Ok (kept_as read.0, read.1)

TextFound : Texts → Bool → Sums → Sums → ℕ → List ℕ → TextSection → List ℕ → Type 0
TextFound texts flag base sums n bytes t rest = (own : List ℕ) × Front n bytes own rest × KeptText texts flag base sums own t

-- bytes that are a delta, whatever is kept of it
delta_found : (texts : Texts) (base sums : Sums) (n : ℕ) (bytes : List ℕ) (kept_as : List ℕ → TextSection) (t : TextSection) (rest : List ℕ)
    → ((own : List ℕ) → kept_as own ≡ kept_section texts (delta_of base sums own))
    → (bytes_at n bytes >>= as_text kept_as) ≡ Ok (t, rest) → TextFound texts true base sums n bytes t rest
unfolding TextFound
delta_found texts base sums n bytes kept_as t rest is h =
    let read = bound_ok (bytes_at n bytes) (as_text kept_as) (t, rest) h in
    let same = read_same (kept_as read.0.0, read.0.1) (t, rest) read.2 in
    let kept_text : KeptText texts true base sums read.0.0 t =
    record { whole = delta_of base sums read.0.0; is = (refl, refl, refl, refl, refl); kept_is = sym same.0 ∙ is read.0.0 } in
    (read.0.0, front_read n bytes read.0.0 rest (read.1 ∙ ap (λ (l : List ℕ). Ok (read.0.0, l)) same.1), kept_text)

whole_found : (texts : Texts) (base sums : Sums) (n : ℕ) (bytes : List ℕ) (t : TextSection) (rest : List ℕ)
    → (whole_text_at texts (record { md5 = sums.md5; sha1 = sums.sha1 }) n bytes >>= as_text text.Whole) ≡ Ok (t, rest)
    → TextFound texts false base sums n bytes t rest
unfolding TextFound
whole_found texts base sums n bytes t rest h =
    let all = bound_ok (whole_text_at texts (record { md5 = sums.md5; sha1 = sums.sha1 }) n bytes) (as_text text.Whole) (t, rest) h in
    let read =
    bound_ok (bytes_at n bytes)
    (λ read. checked (record { md5 = sums.md5; sha1 = sums.sha1 }) read.0 >>= λ whole. Ok (kept texts whole, read.1)) all.0 all.1 in
    let whole = bound_ok (checked (record { md5 = sums.md5; sha1 = sums.sha1 }) read.0.0) (λ whole. Ok (kept texts whole, read.0.1)) all.0 read.2 in
    let c = checked_ok sums read.0.0 whole.0 whole.1 in
    let kept_same = read_same (kept texts whole.0, read.0.1) all.0 whole.2 in
    let same = read_same (text.Whole all.0.0, all.0.1) (t, rest) all.2 in
    let t_is : text.Whole (kept texts read.0.0) ≡ t = ap (λ (l : List ℕ). text.Whole (kept texts l)) c.same ∙ ap text.Whole kept_same.0 ∙ same.0 in
    let kept_text : KeptText texts false base sums read.0.0 t =
    record {
      whole = text.Whole read.0.0;
      is = (refl, c.md5_is, c.sha1_is);
      kept_is = sym t_is ∙ by texts read.0.0;
    } in (
      read.0.0,
      front_read n bytes read.0.0 rest (read.1 ∙ ap (λ (l : List ℕ). Ok (read.0.0, l)) (kept_same.1 ∙ same.1)),
      kept_text,
    )
  where
    by : (texts : Texts) (own : List ℕ) → text.Whole (kept texts own) ≡ kept_section texts (text.Whole own)
    by Whole own = refl
    by Sha1 own = refl
    by Md5 own = refl

-- a delta in whose place is a stand-in, by the checksum that is given, or else by that of no bytes
stand_in_found : (texts : Texts) (missing : Reason) (word_of : List ℕ → List ℕ) (none : List ℕ) (given : Option (List ℕ)) (base sums : Sums) (n : ℕ)
    (bytes : List ℕ) (t : TextSection) (rest : List ℕ) → kept texts [] ≡ word_of none
    → ((own : List ℕ) → text.Whole (word_of (unwrap_or given none)) ≡ kept_section texts (delta_of base sums own))
    → stand_in_at texts missing (option_map word_of given) n bytes ≡ Ok (t, rest) → TextFound texts true base sums n bytes t rest
stand_in_found texts missing word_of none None base sums n bytes t rest empty same h =
    let short = ok_second (nat_lt 4 n) missing (bytes_at n bytes >>= as_text (λ own. text.Whole (kept texts []))) (t, rest) h in
    delta_found texts base sums n bytes (λ own. text.Whole (kept texts [])) t rest (λ own. ap text.Whole empty ∙ same own) short.1
stand_in_found texts missing word_of none (Some sum) base sums n bytes t rest empty same h =
    delta_found texts base sums n bytes (λ own. text.Whole (word_of sum)) t rest same h

pub sized_text_found : (texts : Texts) (props len : Option ℕ) (changes_props flag : Bool) (base sums : Sums) (limit n : ℕ) (bytes : List ℕ)
    (t : TextSection) (rest : List ℕ)
    → sized_text_at (record {
      lengths = record { props = props; text = len };
      sums = record { md5 = sums.md5; sha1 = sums.sha1 };
      base_sums = record { md5 = base.md5; sha1 = base.sha1 };
      changes_props = changes_props;
      changes_text = flag;
    }) texts limit n bytes ≡ Ok (t, rest)
    → (own : List ℕ) × Front n bytes own rest × KeptText texts flag base sums own t
unfolding TextFound
sized_text_found Whole props len changes_props true base sums limit n bytes t rest h =
    let fits = ok_second (nat_lt limit n) (TextTooLong n limit) (bytes_at n bytes >>= as_text (delta_of base sums)) (t, rest) h in
    delta_found Whole base sums n bytes (delta_of base sums) t rest (λ own. refl) fits.1
sized_text_found Sha1 props len changes_props true base sums limit n bytes t rest h =
    stand_in_found Sha1 NoSha1 stand_in_of (sha1 []) sums.sha1 base sums n bytes t rest refl (λ own. refl) h
sized_text_found Md5 props len changes_props true base sums limit n bytes t rest h =
    stand_in_found Md5 NoMd5 stand_in_of_md5 (md5 []) sums.md5 base sums n bytes t rest refl (λ own. refl) h
sized_text_found Whole props len changes_props false base sums limit n bytes t rest h =
    let all = whole_text_at Whole (record { md5 = sums.md5; sha1 = sums.sha1 }) n bytes >>= as_text text.Whole in
    whole_found Whole base sums n bytes t rest (ok_second (nat_lt limit n) (TextTooLong n limit) all (t, rest) h).1
sized_text_found Sha1 props len changes_props false base sums limit n bytes t rest h = whole_found Sha1 base sums n bytes t rest h
sized_text_found Md5 props len changes_props false base sums limit n bytes t rest h = whole_found Md5 base sums n bytes t rest h

-- ---- sections of the grammar are read

pub cut_whole : (front rest : List ℕ) → bytes_at (length front) (front ++ rest) ≡ Ok (front, rest)
cut_whole front rest =
    let enough = le-ltb (length (front ++ rest)) (length front) (omega (arith, length-append front rest)) in
    rw (enough, take-append_seam front rest, drop-append_seam front rest) refl

pub section_given : {A : Type 0} (at : ℕ → List ℕ → Read A) (own : Option (List ℕ)) (o : Option A) (rest : List ℕ)
    → IsGiven (λ bytes x. at (length bytes) (bytes ++ rest) ≡ Ok (x, rest)) own o
    → if_given (option_map length own) at (unwrap_or own [] ++ rest) ≡ Ok (o, rest)
section_given at None None rest h = refl
section_given at None (Some x) rest h = absurd h
section_given at (Some bytes) None rest h = absurd h
section_given at (Some bytes) (Some x) rest h = ap (λ r. r >>= λ read. Ok (Some read.0, read.1)) h

skipped_given : (own : Option (List ℕ)) (rest : List ℕ)
    → skipped (unwrap_or (option_map length own) 0) (unwrap_or own [] ++ rest) ≡ Ok (tt, rest)
skipped_given None rest = ap (λ r. r >>= λ read. Ok (tt, read.1)) (cut_whole [] rest)
skipped_given (Some bytes) rest = ap (λ r. r >>= λ read. Ok (tt, read.1)) (cut_whole bytes rest)

pub sections_skipped : (prop_bytes text_bytes : Option (List ℕ)) (rest : List ℕ)
    → after_sections (record { props = option_map length prop_bytes; text = option_map length text_bytes })
    (unwrap_or prop_bytes [] ++ (unwrap_or text_bytes [] ++ rest)) ≡ Ok (tt, rest)
sections_skipped prop_bytes text_bytes rest =
    ap (λ r. r >>= λ read. skipped (unwrap_or (option_map length text_bytes) 0) read.1)
    (skipped_given prop_bytes (unwrap_or text_bytes [] ++ rest)) ∙ skipped_given text_bytes rest

pub sized_props_given : (flag : Bool) (limit : ℕ) (bytes : List ℕ) (section : PropSection) (rest : List ℕ) → IsPropsOf flag bytes section
    → length bytes ≤ limit → sized_props_at flag limit (length bytes) (bytes ++ rest) ≡ Ok (section, rest)
sized_props_given flag limit bytes section rest h fits =
    rw (le-ltb limit (length bytes) fits, cut_whole bytes rest, props_given flag bytes section h) refl

sum_given : (given : Option (List ℕ)) (sum : List ℕ) → IfSome given (λ s. s ≡ sum) → is_given_as given sum ≡ true
sum_given None sum h = refl
sum_given (Some s) sum h = ap (λ (x : List ℕ). bytes_eq x sum) h ∙ bytes_eq-same sum

-- a text that has its checksums
text_given : (texts : Texts) (sums : Sums) (own : List ℕ) (rest : List ℕ) → IfSome sums.md5 (λ sum. sum ≡ md5 own)
    → IfSome sums.sha1 (λ sum. sum ≡ sha1 own)
    → (whole_text_at texts (record { md5 = sums.md5; sha1 = sums.sha1 }) (length own) (own ++ rest) >>= as_text text.Whole)
    ≡ Ok (kept_section texts (text.Whole own), rest)
text_given Whole sums own rest e f = rw (cut_whole own rest, sum_given sums.md5 (md5 own) e, sum_given sums.sha1 (sha1 own) f) refl
text_given Sha1 sums own rest e f = rw (cut_whole own rest, sum_given sums.md5 (md5 own) e, sum_given sums.sha1 (sha1 own) f) refl
text_given Md5 sums own rest e f = rw (cut_whole own rest, sum_given sums.md5 (md5 own) e, sum_given sums.sha1 (sha1 own) f) refl

-- a delta in whose place is a stand-in
stand_in_given : (texts : Texts) (missing : Reason) (word_of : List ℕ → List ℕ) (none : List ℕ) (given : Option (List ℕ)) (own rest : List ℕ)
    → kept texts [] ≡ word_of none → MatchOption given (length own ≤ 4) (λ _. Unit {0})
    → stand_in_at texts missing (option_map word_of given) (length own) (own ++ rest) ≡ Ok (text.Whole (word_of (unwrap_or given none)), rest)
stand_in_given texts missing word_of none None own rest empty few = rw (le-ltb 4 (length own) few, cut_whole own rest, empty) refl
stand_in_given texts missing word_of none (Some sum) own rest empty few = rw (cut_whole own rest) refl

-- a delta that can be replaced, with its bytes and its checksum as they are given
few_given : (delta own : List ℕ) (sum given : Option (List ℕ)) → delta ≡ own → sum ≡ given → MatchOption sum (length delta ≤ 4) (λ _. Unit {0})
    → MatchOption given (length own ≤ 4) (λ _. Unit {0})
few_given delta own sum given e f few =
    subst (λ (l : List ℕ). MatchOption given (length l ≤ 4) (λ _. Unit {0})) e
    (subst (λ (o : Option (List ℕ)). MatchOption o (length delta ≤ 4) (λ _. Unit {0})) f few)

pub sized_text_given : (texts : Texts) (props len : Option ℕ) (changes_props flag : Bool) (base sums : Sums) (limit : ℕ) (own : List ℕ)
    (whole : TextSection) (rest : List ℕ) → IsTextOf flag base sums own whole → CanKeep texts limit whole
    → sized_text_at (record {
      lengths = record { props = props; text = len };
      sums = record { md5 = sums.md5; sha1 = sums.sha1 };
      base_sums = record { md5 = base.md5; sha1 = base.sha1 };
      changes_props = changes_props;
      changes_text = flag;
    }) texts limit (length own) (own ++ rest)
    ≡ Ok (kept_section texts whole, rest)
sized_text_given texts props len changes_props true base sums limit own (text.Whole bytes) rest h fits = absurd h
sized_text_given texts props len changes_props false base sums limit own (text.Delta delta) rest h fits = absurd h
sized_text_given Whole props len changes_props true base sums limit own (text.Delta delta) rest h fits =
    let short = le-ltb limit (length own) (subst (λ (l : List ℕ). length l ≤ limit) h.0 fits) in
    rw (short, cut_whole own rest) (rw (sym h.0, sym h.1, sym h.2, sym h.3, sym h.4) refl)
sized_text_given Sha1 props len changes_props true base sums limit own (text.Delta delta) rest h fits =
    stand_in_given Sha1 NoSha1 stand_in_of (sha1 []) sums.sha1 own rest refl (few_given delta.delta own delta.sha1 sums.sha1 h.0 h.4 fits)
    ∙ ap (λ (o : Option (List ℕ)). Ok (text.Whole (stand_in_of (unwrap_or o (sha1 []))), rest)) (sym h.4)
sized_text_given Md5 props len changes_props true base sums limit own (text.Delta delta) rest h fits =
    stand_in_given Md5 NoMd5 stand_in_of_md5 (md5 []) sums.md5 own rest refl (few_given delta.delta own delta.md5 sums.md5 h.0 h.3 fits)
    ∙ ap (λ (o : Option (List ℕ)). Ok (text.Whole (stand_in_of_md5 (unwrap_or o (md5 []))), rest)) (sym h.3)
sized_text_given Whole props len changes_props false base sums limit own (text.Whole bytes) rest h fits =
    let short = le-ltb limit (length own) (subst (λ (l : List ℕ). length l ≤ limit) h.0 fits) in
    rw short (text_given Whole sums own rest h.1 h.2)
    ∙ ap (λ (l : List ℕ). Ok (kept_section Whole (text.Whole l), rest)) (sym h.0)
sized_text_given Sha1 props len changes_props false base sums limit own (text.Whole bytes) rest h fits =
    text_given Sha1 sums own rest h.1 h.2 ∙ ap (λ (l : List ℕ). Ok (kept_section Sha1 (text.Whole l), rest)) (sym h.0)
sized_text_given Md5 props len changes_props false base sums limit own (text.Whole bytes) rest h fits =
    text_given Md5 sums own rest h.1 h.2 ∙ ap (λ (l : List ℕ). Ok (kept_section Md5 (text.Whole l), rest)) (sym h.0)
