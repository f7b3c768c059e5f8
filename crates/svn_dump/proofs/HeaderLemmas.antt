-- The headers of a record, line by line.
use Rattle.std.proofs.Common.{◌≡◌, ℕ, ◌<◌, Bool, true, false, ◌&&◌, List, [], ◌∷◌, length, get_or, set, filter_map, unwrap_or, ◌≢◌, bytes_eq, cond, Option, Some, None, Result, Ok, Err, refl, sym, ap, subst, ◌∙◌}
use Rattle.std.proofs.lemmas.List.{get_or-set_same, get_or-set_other}
use Rattle.std.specs.List.{cons_option, list_all}
use Rattle.svn_lists.proofs.Equality.{bytes_eq-same, same_bytes}
use Rattle.svn_dump.specs.declared.fault.Reason.{Reason}
use Rattle.svn_dump.specs.declared.fault.Reason.TheVariants.{Twice}
use Rattle.svn_dump.specs.declared.given.Given.{Given}
use Rattle.svn_dump.specs.declared.header_name.HeaderName.{HeaderName}
use Rattle.svn_dump.specs.declared.header_name.HeaderName.TheVariants.{NodePath, NodeKind, NodeAction, PropLength, TextLength, TextMd5, TextSha1, ContentLength, CopyRev}
use Rattle.svn_dump.specs.declared.header_name.HeaderName.TheVariants.{CopyPath, PropDelta, TextDelta, BaseMd5, BaseSha1, Revision, Checksum, Uuid, Format}
use Rattle.svn_dump.specs.declared.given.Given.TheVariants.{Absent}
use Rattle.svn_dump.specs.Headers.{single, if_named, value_in, header_of, lines_of, values_of, header_value, is_header, are_headers}
use Rattle.svn_dump.specs.HeaderNames.{name_of, index_of, first_named, header_named, rarely_named}
use Rattle.svn_dump.specs.GivenHeaders.{once_more, more_given, all_given, given, given_at}

-- ---- how often a header is given

-- no value takes back that there were two
stays_twice : (values : List (List ℕ)) → all_given (Err Twice) values ≡ Err Twice
stays_twice [] = refl
stays_twice (v ∷ vs) = stays_twice vs

-- the values of all lines
pub given_single : (values : List (List ℕ)) → all_given (Ok None) values ≡ single values
given_single [] = refl
given_single (v ∷ []) = refl
given_single (v ∷ w ∷ vs) = stays_twice vs

-- ---- names

named_itself : (name : HeaderName) → header_named (name_of name) ≡ Some name
named_itself NodePath = refl
named_itself NodeKind = refl
named_itself NodeAction = refl
named_itself PropLength = refl
named_itself TextLength = refl
named_itself TextMd5 = refl
named_itself TextSha1 = refl
named_itself ContentLength = refl
named_itself CopyRev = refl
named_itself CopyPath = refl
named_itself PropDelta = refl
named_itself TextDelta = refl
named_itself BaseMd5 = refl
named_itself BaseSha1 = refl
named_itself Revision = refl
named_itself Checksum = refl
named_itself Uuid = refl
named_itself Format = refl

all_headers : List HeaderName
all_headers =
    NodePath ∷ NodeKind ∷ NodeAction ∷ PropLength ∷ TextLength ∷ TextMd5 ∷ TextSha1 ∷ ContentLength ∷ CopyRev
    ∷ CopyPath ∷ PropDelta ∷ TextDelta ∷ BaseMd5 ∷ BaseSha1 ∷ Revision ∷ Checksum ∷ Uuid ∷ Format ∷ []

at_index : (name : HeaderName) → get_or all_headers (index_of name) NodePath ≡ name
unfolding all_headers
at_index NodePath = refl
at_index NodeKind = refl
at_index NodeAction = refl
at_index PropLength = refl
at_index TextLength = refl
at_index TextMd5 = refl
at_index TextSha1 = refl
at_index ContentLength = refl
at_index CopyRev = refl
at_index CopyPath = refl
at_index PropDelta = refl
at_index TextDelta = refl
at_index BaseMd5 = refl
at_index BaseSha1 = refl
at_index Revision = refl
at_index Checksum = refl
at_index Uuid = refl
at_index Format = refl

same_index : (m n : HeaderName) → index_of m ≡ index_of n → m ≡ n
same_index m n e = sym (at_index m) ∙ ap (λ k. get_or all_headers k NodePath) e ∙ at_index n

same_some : (m n : HeaderName) → Some m ≡ Some n → m ≡ n
same_some m n e = ap (λ o. unwrap_or o m) e

named_test : (name m : HeaderName) (more : Option HeaderName) (spelled : List ℕ) (b : Bool) → bytes_eq spelled (name_of name) ≡ b
    → (more ≡ Some m → spelled ≡ name_of m) → cond b (Some name) more ≡ Some m → spelled ≡ name_of m
named_test name m more spelled true same later e = same_bytes spelled (name_of name) same ∙ ap name_of (same_some name m e)
named_test name m more spelled false same later e = later e

named_so : (names : List HeaderName) (other : Option HeaderName) (spelled : List ℕ) (m : HeaderName) → (other ≡ Some m → spelled ≡ name_of m)
    → first_named names other spelled ≡ Some m → spelled ≡ name_of m
named_so [] other spelled m last e = last e
named_so (name ∷ names) other spelled m last e =
    named_test name m (first_named names other spelled) spelled (bytes_eq spelled (name_of name)) refl (named_so names other spelled m last) e

no_header : (spelled : List ℕ) (m : HeaderName) → None ≡ Some m → spelled ≡ name_of m
no_header spelled m e =
    let impossible : ⊥ = cc in
    absurd impossible

-- the header that is spelled so has that name
spelled_so : (spelled : List ℕ) (m : HeaderName) → header_named spelled ≡ Some m → spelled ≡ name_of m
spelled_so spelled m =
    named_so (NodePath ∷ NodeKind ∷ NodeAction ∷ PropLength ∷ TextLength ∷ TextMd5 ∷ TextSha1 ∷ ContentLength ∷ []) (rarely_named spelled) spelled m
    (named_so (CopyRev ∷ CopyPath ∷ PropDelta ∷ TextDelta ∷ BaseMd5 ∷ BaseSha1 ∷ Revision ∷ Checksum ∷ Uuid ∷ Format ∷ []) None spelled m (no_header spelled m))

-- the header that has the name of another is that one
named_as : (spelled : List ℕ) (m : HeaderName) → bytes_eq spelled (name_of m) ≡ true → header_named spelled ≡ Some m
named_as spelled m e = ap header_named (same_bytes spelled (name_of m) e) ∙ named_itself m

-- ---- a line

-- a line that is no header gives none
pub gives_none : (line : List ℕ) (found : Result (Option (List ℕ)) Reason) (name : HeaderName) → header_of line ≡ None
    → found ≡ more_given found (value_in (name_of name) line)
gives_none line found name e = ap (λ o. more_given found (if_named (name_of name) o)) (sym e)

other_name : (spelled value : List ℕ) (found : Result (Option (List ℕ)) Reason) (b : Bool) → b ≡ false
    → found ≡ more_given found (cond b (Some value) None)
other_name spelled value found b e = ap (λ t. more_given found (cond t (Some value) None)) (sym e)

false_unless : (b : Bool) → (b ≡ true → ⊥) → b ≡ false
false_unless true never = absurd (never refl)
false_unless false never = refl

-- nor does one whose header isn't read
pub gives_unread : (line spelled value : List ℕ) (found : Result (Option (List ℕ)) Reason) (name : HeaderName)
    → header_of line ≡ Some (spelled, value) → header_named spelled ≡ None → found ≡ more_given found (value_in (name_of name) line)
gives_unread line spelled value found name e unread =
    let differs : bytes_eq spelled (name_of name) ≡ false =
    false_unless (bytes_eq spelled (name_of name)) (λ same. let found_so : header_named spelled ≡ Some name = named_as spelled name same in cc) in
    other_name spelled value found (bytes_eq spelled (name_of name)) differs
    ∙ ap (λ o. more_given found (if_named (name_of name) o)) (sym e)

-- one more value of a header, by whether it is the one that is asked for
one_given : (headers : List Given) (more : Given) (spelled value : List ℕ) (header name : HeaderName) (b : Bool) → bytes_eq spelled (name_of name) ≡ b
    → header_named spelled ≡ Some header → index_of header < length headers → given more ≡ once_more (given_at headers header) value
    → given_at (set headers (index_of header) more) name ≡ more_given (given_at headers name) (cond b (Some value) None)
one_given headers more spelled value header name true same read within made =
    let this : header ≡ name = same_some header name (sym read ∙ named_as spelled name same) in
    subst (λ n. given_at (set headers (index_of header) more) n ≡ once_more (given_at headers n) value) this
    (ap given (get_or-set_same headers (index_of header) more Absent within) ∙ made)
one_given headers more spelled value header name false other read within made =
    let apart : index_of name ≢ index_of header =
    λ e. let this : name ≡ header = same_index name header e in
    let same : bytes_eq spelled (name_of name) ≡ true =
    ap (λ n. bytes_eq n (name_of name)) (spelled_so spelled header read ∙ ap name_of (sym this)) ∙ bytes_eq-same (name_of name) in
    cc in
    ap given (get_or-set_other headers (index_of header) (index_of name) more Absent apart)

-- a line gives its header once more
pub gives_once : (headers : List Given) (more : Given) (line spelled value : List ℕ) (header name : HeaderName)
    → header_of line ≡ Some (spelled, value) → header_named spelled ≡ Some header → index_of header < length headers
    → given more ≡ once_more (given_at headers header) value
    → given_at (set headers (index_of header) more) name ≡ more_given (given_at headers name) (value_in (name_of name) line)
gives_once headers more line spelled value header name e read within made =
    one_given headers more spelled value header name (bytes_eq spelled (name_of name)) refl read within made
    ∙ ap (λ o. more_given (given_at headers name) (if_named (name_of name) o)) (sym e)

-- ---- all lines

one_line : (found : Result (Option (List ℕ)) Reason) (value : Option (List ℕ)) (values : List (List ℕ))
    → all_given found (cons_option value values) ≡ all_given (more_given found value) values
one_line found None values = refl
one_line found (Some value) values = refl

-- the line before the first line feed, and those after it
pub first_line : (found : Result (Option (List ℕ)) Reason) (name rest line after : List ℕ) → lines_of rest ≡ line ∷ lines_of after
    → all_given (more_given found (value_in name line)) (values_of name after) ≡ all_given found (values_of name rest)
first_line found name rest line after e =
    sym (one_line found (value_in name line) (values_of name after)) ∙ ap (λ (lines : List (List ℕ)). all_given found (filter_map (value_in name) lines)) (sym e)

-- the last line
pub last_line : (found : Result (Option (List ℕ)) Reason) (name rest : List ℕ) → lines_of rest ≡ rest ∷ []
    → more_given found (value_in name rest) ≡ all_given found (values_of name rest)
last_line found name rest e =
    sym (one_line found (value_in name rest) []) ∙ ap (λ (lines : List (List ℕ)). all_given found (filter_map (value_in name) lines)) (sym e)

-- before the first line
none_given : (name : HeaderName) → given_at (Absent ∷ Absent ∷ Absent ∷ Absent ∷ Absent ∷ Absent ∷ Absent ∷ Absent ∷ Absent ∷ Absent ∷ Absent ∷ Absent ∷ Absent ∷ Absent ∷ Absent ∷ Absent ∷ Absent ∷ Absent ∷ []) name ≡ Ok None
none_given NodePath = refl
none_given NodeKind = refl
none_given NodeAction = refl
none_given PropLength = refl
none_given TextLength = refl
none_given TextMd5 = refl
none_given TextSha1 = refl
none_given ContentLength = refl
none_given CopyRev = refl
none_given CopyPath = refl
none_given PropDelta = refl
none_given TextDelta = refl
none_given BaseMd5 = refl
none_given BaseSha1 = refl
none_given Revision = refl
none_given Checksum = refl
none_given Uuid = refl
none_given Format = refl

pub no_line : (block : List ℕ) (name : HeaderName)
    → all_given (given_at (Absent ∷ Absent ∷ Absent ∷ Absent ∷ Absent ∷ Absent ∷ Absent ∷ Absent ∷ Absent ∷ Absent ∷ Absent ∷ Absent ∷ Absent ∷ Absent ∷ Absent ∷ Absent ∷ Absent ∷ Absent ∷ []) name) (values_of (name_of name) block) ≡ header_value block (name_of name)
no_line block name =
    ap (λ found. all_given found (values_of (name_of name) block)) (none_given name) ∙ given_single (values_of (name_of name) block)

-- ---- whether each line is a header

pub lines_more : (rest line after : List ℕ) → lines_of rest ≡ line ∷ lines_of after → are_headers rest ≡ (is_header line && are_headers after)
lines_more rest line after e = ap (list_all is_header) e

and_true : (b : Bool) → (b && true) ≡ b
and_true true = refl
and_true false = refl

pub line_alone : (rest : List ℕ) → lines_of rest ≡ rest ∷ [] → are_headers rest ≡ is_header rest
line_alone rest e = ap (list_all is_header) e ∙ and_true (is_header rest)

-- a line more, where all so far were headers
pub well_formed_more : (well header : Bool) (rest line after : List ℕ) (all : Bool) → lines_of rest ≡ line ∷ lines_of after
    → (well && are_headers rest) ≡ all → well ≡ true → header ≡ is_header line → (header && are_headers after) ≡ all
well_formed_more well header rest line after all e so_far is same =
    ap (λ b. b && are_headers after) same ∙ sym (lines_more rest line after e)
    ∙ sym (ap (λ b. b && are_headers rest) is) ∙ so_far

-- where one wasn't
pub ill_formed_more : (well : Bool) (rest after : List ℕ) (all : Bool) → (well && are_headers rest) ≡ all → well ≡ false
    → (well && are_headers after) ≡ all
ill_formed_more well rest after all so_far is =
    ap (λ b. b && are_headers after) is ∙ sym (ap (λ b. b && are_headers rest) is) ∙ so_far
