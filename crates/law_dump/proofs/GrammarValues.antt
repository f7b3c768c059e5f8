-- What is read of the values of headers is what they say by the grammar.
use Rattle.std.proofs.Common.{◌≡◌, ◌≢◌, ℕ, ◌≤◌, Bool, true, false, cond, List, [], ◌∷◌, length, Option, Some, None, Result, Ok, Err, is_some, refl, sym, ap, subst, ◌∙◌, arith, nat_eq, nat_lt, bytes_eq, codes, true≢false}
use Rattle.std.specs.List.{list_all, AllByRecursion}
use Rattle.std.specs.Str.{is_utf8}
use Rattle.std.proofs.lemmas.Bool.{eqb-false, ltb-false}
use Rattle.std.proofs.lemmas.Option.{none-some, same_Some}
use Rattle.hex.specs.Hex.{decode_sized}
use Rattle.hex.specs.declared.error.FromHexError.{FromHexError}
use Rattle.svn_lists.proofs.Equality.{same_bytes}
use Rattle.svn_lists.proofs.Options.{some-none, option_or_none, cond_none}
use Rattle.svn_types.specs.declared.kind.Kind.{Kind}
use Rattle.svn_types.specs.declared.kind.Kind.TheVariants.{File, Directory}
use Rattle.svn_types.specs.declared.fault.PathFault.{PathFault}
use Rattle.svn_types.specs.declared.fault.PathFault.TheVariants.{EmptyComponent, Dots, NameTooLong, BadCharacter, TooManyComponents}
use Rattle.svn_types.specs.Names.{Path, IsName, name_limit, depth_limit, is_dots, is_plain, path_of_text}
use Rattle.svn_types.specs.NameFaults.{name_fault, names_fault, count_fault, path_fault}
use Rattle.svn_digits.specs.Numbers.{number_of}
use Rattle.svn_dump.specs.declared.fault.Reason.{Reason}
use Rattle.svn_dump.specs.declared.fault.Reason.TheVariants.{NotUtf8, NotAKind, NotANumber, NotAnAction, NotAChecksum}
use Rattle.svn_dump.specs.declared.record.Action.{Action}
use Rattle.svn_dump.specs.declared.record.Action.TheVariants.{Add, Change, Delete, Replace}
use Rattle.svn_dump.specs.declared.record.CopySource.{CopySource}
use Rattle.svn_dump.specs.Reading.{◌>>=◌}
use Rattle.svn_dump.specs.Headers.{header_value}
use Rattle.svn_dump.specs.Fields.{number_or_fault, as_number, number_value, sum_or_fault, as_sum, sum_value, is_word, true_value, without_slash, path_or_fault, path_of, kind_of, kind_value, named_action, action_or_fault, action_of, action_value, source_of, source_value}
use Rattle.svn_dump.specs.Records.{is_given}
use Rattle.law_dump.specs.Grammar.{Header, IsHeader, header_lines, Gives, Says, IsNumber, IsSumOf, IsPathOf, IsKindWord, IsActionWord, IsFlag, IsSourceOf}
use Rattle.law_dump.proofs.Choices.{ok_first, bound_ok, ok_same, err_ok}
use Rattle.law_dump.proofs.GrammarHeaders.{value_gives}

-- ---- any value

-- a value that is read where there is one
pub says : {A : Type 0} (Spells : List ℕ → A → Type 0) (headers : List Header) (name : List ℕ)
    (read : Option (List ℕ) → Result (Option A) Reason) (o : Option A)
    → read None ≡ Ok None
    → ((value : List ℕ) (o : Option A) → read (Some value) ≡ Ok o → (x : A) × (Some x ≡ o) × Spells value x)
    → AllByRecursion IsHeader headers → (header_value (header_lines headers) name >>= read) ≡ Ok o → Says Spells headers name o
says {A} Spells headers name read o none some are h =
    let found = bound_ok (header_value (header_lines headers) name) read o h in
    by found.0 (value_gives headers name found.0 are found.1) found.2
  where
    by : (value : Option (List ℕ)) → Gives headers name value → read value ≡ Ok o → Says Spells headers name o
    by None g k = subst (Says Spells headers name) (ok_same None o (sym none ∙ k)) g
    by (Some value) g k = let x = some value o k in subst (Says Spells headers name) x.1 (value, g, x.2)

-- ---- numbers, checksums and flags

pub number_says : (headers : List Header) (name : List ℕ) (o : Option ℕ) → AllByRecursion IsHeader headers
    → number_value (header_lines headers) name ≡ Ok o → Says IsNumber headers name o
number_says headers name o are h = says IsNumber headers name as_number o refl one are h
  where
    by : (value : List ℕ) (n : Option ℕ) (o : Option ℕ) → number_of value ≡ n → number_or_fault n ≡ Ok o → (x : ℕ) × (Some x ≡ o) × IsNumber value x
    by value None o e k = absurd (err_ok NotANumber o k)
    by value (Some n) o e k = (n, ok_same (Some n) o k, e)

    one : (value : List ℕ) (o : Option ℕ) → as_number (Some value) ≡ Ok o → (x : ℕ) × (Some x ≡ o) × IsNumber value x
    one value o k = by value (number_of value) o refl k

pub sum_says : (size : ℕ) (headers : List Header) (name : List ℕ) (o : Option (List ℕ)) → AllByRecursion IsHeader headers
    → sum_value size (header_lines headers) name ≡ Ok o → Says (IsSumOf size) headers name o
sum_says size headers name o are h = says (IsSumOf size) headers name (as_sum size) o refl one are h
  where
    by : (value : List ℕ) (r : Result (List ℕ) FromHexError) (o : Option (List ℕ)) → decode_sized value size ≡ r → sum_or_fault r ≡ Ok o
        → (x : List ℕ) × (Some x ≡ o) × IsSumOf size value x
    by value (Err f) o e k = absurd (err_ok NotAChecksum o k)
    by value (Ok sum) o e k = (sum, ok_same (Some sum) o k, e)

    one : (value : List ℕ) (o : Option (List ℕ)) → as_sum size (Some value) ≡ Ok o → (x : List ℕ) × (Some x ≡ o) × IsSumOf size value x
    one value o k = by value (decode_sized value size) o refl k

pub flag_says : (headers : List Header) (name : List ℕ) (b : Bool) → AllByRecursion IsHeader headers
    → true_value (header_lines headers) name ≡ Ok b → IsFlag headers name b
flag_says headers name b are h =
    let found = bound_ok (header_value (header_lines headers) name) (λ value. Ok (is_word (codes "true") value)) b h in
    by b found.0 (value_gives headers name found.0 are found.1) (ok_same (is_word (codes "true") found.0) b found.2)
  where
    is : (value : Option (List ℕ)) → is_word (codes "true") value ≡ true → value ≡ Some (codes "true")
    is None e = absurd (true≢false (sym e))
    is (Some value) e = ap (λ (v : List ℕ). Some v) (same_bytes value (codes "true") e)

    by : (b : Bool) (value : Option (List ℕ)) → Gives headers name value → is_word (codes "true") value ≡ b → IsFlag headers name b
    by true value g e = subst (Gives headers name) (is value e) g
    by false value g e = (value, g, λ same. true≢false (sym (ap (is_word (codes "true")) same) ∙ e))

-- ---- what is given

pub record IsGivenAs (headers : List Header) (name : List ℕ) (b : Bool) : Type 0 where
  pub value : Option (List ℕ)
  pub read : header_value (header_lines headers) name ≡ Ok value
  pub gives : Gives headers name value
  pub is : is_some value ≡ b

pub given_says : (headers : List Header) (name : List ℕ) (b : Bool) → AllByRecursion IsHeader headers
    → is_given (header_lines headers) name ≡ Ok b → IsGivenAs headers name b
given_says headers name b are h =
    let found = bound_ok (header_value (header_lines headers) name) (λ value. Ok (is_some value)) b h in
    record { value = found.0; read = found.1; gives = value_gives headers name found.0 are found.1; is = ok_same (is_some found.0) b found.2 }

-- ---- paths

lawful_name : (n : List ℕ) → name_fault n ≡ None → IsName n
lawful_name n h =
    let dots = is_dots n in
    let long = nat_lt name_limit (length n) in
    let plain = list_all is_plain n in
    let last = cond plain None (Some BadCharacter) in
    let some = cond_none (nat_eq (length n) 0) EmptyComponent (cond dots (Some Dots) (cond long (Some NameTooLong) last)) h in
    let name = cond_none dots Dots (cond long (Some NameTooLong) last) some.1 in
    let short = cond_none long NameTooLong last name.1 in
    let not_empty : length n ≢ 0 = eqb-false (length n) 0 some.0 in
    record {
      not_empty = omega (arith, not_empty);
      not_dots = name.0;
      bounded = ltb-false name_limit (length n) short.0;
      plain = by plain short.1;
    }
  where
    by : (b : Bool) → cond b None (Some BadCharacter) ≡ None → b ≡ true
    by true k = refl
    by false k = absurd (some-none BadCharacter k)

lawful_names : (path : Path) → names_fault path ≡ None → AllByRecursion IsName path
lawful_names [] h = tt
lawful_names (n ∷ path) h =
    let both = option_or_none (name_fault n) (names_fault path) h in
    (lawful_name n both.0, lawful_names path both.1)

pub path_says : (value : List ℕ) (path : Path) → path_of value ≡ Ok path → IsPathOf value path
path_says value path h =
    let text = without_slash value in
    let utf8 = ok_first (is_utf8 text) (path_or_fault (path_fault (path_of_text text)) (path_of_text text)) NotUtf8 path h in
    by (path_fault (path_of_text text)) refl utf8.0 utf8.1
  where
    by : (fault : Option PathFault) → path_fault (path_of_text (without_slash value)) ≡ fault → is_utf8 (without_slash value) ≡ true
        → path_or_fault fault (path_of_text (without_slash value)) ≡ Ok path → IsPathOf value path
    by (Some f) e utf8 k = cc
    by None e utf8 k =
        let names = path_of_text (without_slash value) in
        let same = ok_same names path k in
        let both = option_or_none (names_fault names) (count_fault (length names)) e in
        let few = cond_none (nat_lt depth_limit (length names)) TooManyComponents None both.1 in
        record {
          utf8 = utf8;
          names = sym same;
          lawful = subst (AllByRecursion IsName) same (lawful_names names both.0);
          bounded = subst (λ (p : Path). length p ≤ depth_limit) same (ltb-false depth_limit (length names) few.0);
        }

-- ---- nodes

pub kind_says : (headers : List Header) (o : Option Kind) → AllByRecursion IsHeader headers → kind_value (header_lines headers) ≡ Ok o
    → Says IsKindWord headers (codes "Node-kind") o
kind_says headers o are h = says IsKindWord headers (codes "Node-kind") kind_of o refl one are h
  where
    by : (value : List ℕ) (file dir : Bool) (o : Option Kind) → bytes_eq value (codes "file") ≡ file → bytes_eq value (codes "dir") ≡ dir
        → cond file (Ok (Some File)) (cond dir (Ok (Some Directory)) (Err NotAKind)) ≡ Ok o → (x : Kind) × (Some x ≡ o) × IsKindWord value x
    by value true dir o e f k = (File, ok_same (Some File) o k, same_bytes value (codes "file") e)
    by value false true o e f k = (Directory, ok_same (Some Directory) o k, same_bytes value (codes "dir") f)
    by value false false o e f k = absurd (err_ok NotAKind o k)

    one : (value : List ℕ) (o : Option Kind) → kind_of (Some value) ≡ Ok o → (x : Kind) × (Some x ≡ o) × IsKindWord value x
    one value o k = by value (bytes_eq value (codes "file")) (bytes_eq value (codes "dir")) o refl refl k

word_named : (word : List ℕ) (action : Action) → named_action word ≡ Some action → IsActionWord word action
word_named word action h =
    by (bytes_eq word (codes "add")) (bytes_eq word (codes "change")) (bytes_eq word (codes "delete")) (bytes_eq word (codes "replace")) refl refl refl
    refl h
  where
    is : (a : Action) (w : List ℕ) → word ≡ w → IsActionWord w a → Some a ≡ Some action → IsActionWord word action
    is a w same k e = subst (IsActionWord word) (same_Some a action e) (same ∙ k)

    by : (a c d r : Bool) → bytes_eq word (codes "add") ≡ a → bytes_eq word (codes "change") ≡ c → bytes_eq word (codes "delete") ≡ d
        → bytes_eq word (codes "replace") ≡ r
        → cond a (Some Add) (cond c (Some Change) (cond d (Some Delete) (cond r (Some Replace) None))) ≡ Some action → IsActionWord word action
    by true c d r e f g i k = is Add (codes "add") (same_bytes word (codes "add") e) refl k
    by false true d r e f g i k = is Change (codes "change") (same_bytes word (codes "change") f) refl k
    by false false true r e f g i k = is Delete (codes "delete") (same_bytes word (codes "delete") g) refl k
    by false false false true e f g i k = is Replace (codes "replace") (same_bytes word (codes "replace") i) refl k
    by false false false false e f g i k = absurd (none-some action k)

pub action_says : (headers : List Header) (action : Action) → AllByRecursion IsHeader headers → action_value (header_lines headers) ≡ Ok action
    → Says IsActionWord headers (codes "Node-action") (Some action)
action_says headers action are h =
    let found = bound_ok (header_value (header_lines headers) (codes "Node-action")) action_of action h in
    by found.0 (value_gives headers (codes "Node-action") found.0 are found.1) found.2
  where
    named : (word : List ℕ) (o : Option Action) → named_action word ≡ o → action_or_fault o ≡ Ok action → IsActionWord word action
    named word None e k = absurd (err_ok NotAnAction action k)
    named word (Some a) e k = word_named word action (e ∙ ap (λ (a : Action). Some a) (ok_same a action k))

    by : (value : Option (List ℕ)) → Gives headers (codes "Node-action") value → action_of value ≡ Ok action
        → Says IsActionWord headers (codes "Node-action") (Some action)
    by None g k = absurd (err_ok NotAnAction action k)
    by (Some word) g k = (word, g, named word (named_action word) refl k)

pub source_says : (headers : List Header) (source : Option CopySource) → AllByRecursion IsHeader headers
    → source_value (header_lines headers) ≡ Ok source → IsSourceOf headers source
source_says headers source are h =
    let block = header_lines headers in
    let rev = bound_ok (number_value block (codes "Node-copyfrom-rev")) (λ rev. header_value block (codes "Node-copyfrom-path") >>= source_of rev) source h in
    let path = bound_ok (header_value block (codes "Node-copyfrom-path")) (source_of rev.0) source rev.2 in
    by rev.0 path.0 (number_says headers (codes "Node-copyfrom-rev") rev.0 are rev.1)
    (value_gives headers (codes "Node-copyfrom-path") path.0 are path.1) path.2
  where
    by : (rev : Option ℕ) (value : Option (List ℕ)) → Says IsNumber headers (codes "Node-copyfrom-rev") rev
        → Gives headers (codes "Node-copyfrom-path") value → source_of rev value ≡ Ok source → IsSourceOf headers source
    by None None r g k = subst (IsSourceOf headers) (ok_same None source k) (r, g)
    by (Some rev) None r g k = cc
    by None (Some value) r g k = cc
    by (Some rev) (Some value) r g k =
        let path = bound_ok (path_of value) (λ path. Ok (Some (record { rev = rev; path = path }))) source k in
        subst (IsSourceOf headers) (ok_same (Some (record { rev = rev; path = path.0 })) source path.2)
        (r, (value, g, path_says value path.0 path.1))
