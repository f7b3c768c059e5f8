-- What is answered to commands, each by its fields: the bytes after what says that no mechanism is asked for, or why it isn't answered by success. Where what
-- is known of last changes leaves a choice, these are the bytes that may be written of what was read.
--     latest_answer h      get-latest-rev: the last revision
--     kind_answer h at fields      check-path: what is at a path
--     place_of h at fields, IsStat s place bytes      stat: what is known of a node
--     found_of h at kind fields      get-file, get-dir: the node that is found, and what is wanted of it
--     IsFile s found bytes      get-file: checksum and properties, before the text
--     Tells s old text new read      the same, and what is held of the text that is sent then
--     IsDirectory s found bytes      get-dir: properties and entries
--     inherited_answer h at fields      get-iprops: the properties of the directories above a node
--     dated_answer h revisions fields      get-dated-rev: the last revision that isn't younger than a date
--     rev_prop_answer h revisions fields      rev-prop: the value of a property of a revision
--     rev_props_answer h revisions fields      rev-proplist: the properties of a revision
use Rattle.std.specs.Prelude.{◌≡◌, ℕ, zero, suc, Bool, true, false, List, [], ◌∷◌, ◌++◌, codes, slice_get, Option, Some, None, option_map, option_and_then, Result, Ok, Err, if◌then◌else◌}
use Rattle.std.specs.Cmp.Lexicographic.{slice_cmp}
use Rattle.std.specs.Ordering.{is_le, nat_cmp}
use Rattle.svn_types.specs.Names.{Path}
use Rattle.svn_types.specs.PathTexts.{path_text}
use Rattle.svn_types.specs.declared.kind.Kind.{Kind}
use Rattle.svn_repo.specs.History.{History, look, node_at}
use Rattle.svn_repo.specs.Readings.{entries_of}
use Rattle.svn_wire.specs.declared.token.Token.{Token}
use Rattle.svn_wire.specs.Fields.{number_field, text_field}
use Rattle.svn_wire.specs.Writing.{number_bytes, text_bytes}
use Rattle.svn_wire_calls.specs.Calls.{optional, checksum}
use Rattle.svn_replies.specs.declared.served.Served.{Served}
use Rattle.svn_replies.specs.Answers.{success, kind_bytes, listed}
use Rattle.svn_replies.specs.CommandFields.{path_and_rev, node_fields, prop_fields}
use Rattle.svn_replies.specs.Named.{latest, known_rev, path_in, named_rev, node_in, node_of_kind, place_named}
use Rattle.svn_replies.specs.NodeTexts.{file_text, sum_of}
use Rattle.svn_replies.specs.NodeBytes.{pairs_bytes, IsEntry, ArePropsIf, AreEntriesIf}
use Rattle.svn_replies.specs.declared.fault.Refused.{Refused}
use Rattle.svn_replies.specs.Refusals.{Reason, needed, Fails, ◌>>=◌}
use Rattle.svn_replies.specs.Values.{Pairs, value_at}

abbrev pub latest_answer : History → Result (List ℕ) Reason
latest_answer h = Ok (success (number_bytes (latest h)))

-- ---- what is at a path

abbrev pub kind_at : History → ℕ → Path → Option Kind
kind_at h r p = option_and_then (λ n. option_map (λ row. row.kind) (node_at h n)) (look h r p)

unfoldable pub kind_answer : History → Path → List Token → Result (List ℕ) Reason
kind_answer h at fields = do
  place ← needed (path_and_rev fields)
  r ← named_rev h place.1
  p ← path_in at place.0
  Ok (success (kind_bytes (kind_at h r p)))

-- ---- what is known of a node

-- the revision and the path
unfoldable pub place_of : History → Path → List Token → Result (ℕ × Path) Reason
place_of h at fields = do
  asked ← needed (path_and_rev fields)
  place_named h at asked.0 asked.1

-- of the node that is there, or of none
abbrev pub IsStatOf : Served → ℕ → Path → Option ℕ → List ℕ → Type 0
IsStatOf s r p None bytes = bytes ≡ codes "( ) "
IsStatOf s r p (Some n) bytes = (entry : List ℕ) × IsEntry s r p n entry × (bytes ≡ listed (listed entry))

abbrev pub IsStat : Served → ℕ × Path → List ℕ → Type 0
IsStat s place bytes = (stat : List ℕ) × IsStatOf s place.0 place.1 (look s.repo place.0 place.1) stat × (bytes ≡ success stat)

-- ---- files and directories

-- a node, and what is wanted of it
pub record Found : Type 0 where
  pub rev : ℕ
  pub path : Path
  pub node : ℕ
  pub props : Bool
  pub content : Bool

unfoldable pub found_of : History → Path → Kind → List Token → Result Found Reason
found_of h at kind fields = do
  asked ← needed (node_fields fields)
  place ← place_named h at asked.0 asked.1
  n ← node_of_kind h kind place.0 place.1
  Ok (record { rev = place.0; path = place.1; node = n; props = asked.2; content = asked.3 })

-- what is sent after the answer, where it is wanted
abbrev pub text_if : Bool → Option (List ℕ) → Option (List ℕ)
text_if true held = held
text_if false held = None

-- what is written before the text
abbrev pub IsFile : Served → Found → List ℕ → Type 0
IsFile s f bytes =
    (props : List ℕ) × ArePropsIf f.props s f.rev f.path f.node props
    × (bytes ≡ success (checksum (sum_of s f.node) ++ (number_bytes f.rev ++ listed props)))

-- the answer to get-file, and what is sent after it
abbrev pub Tells : Served → List ℕ → Result (Option (List ℕ)) Refused → List ℕ → Result Found Reason → Type 0
Tells s old (Ok text) new read =
    (f : Found) × (bytes : List ℕ) × (read ≡ Ok f) × (text ≡ text_if f.content (file_text s.repo f.node)) × IsFile s f bytes × (new ≡ old ++ bytes)
Tells s old (Err e) new read = Fails e read

abbrev pub IsDirectory : Served → Found → List ℕ → Type 0
IsDirectory s f bytes =
    (props : List ℕ) × (entries : List ℕ) × ArePropsIf f.props s f.rev f.path f.node props
    × AreEntriesIf f.content s f.rev f.path (entries_of s.repo f.node) entries
    × (bytes ≡ success (number_bytes f.rev ++ (listed props ++ listed entries)))

-- ---- inherited properties

-- the properties of a directory with its path, if it has any
abbrev pub inherited_pairs : Path → Option Pairs → List ℕ
inherited_pairs p None = []
inherited_pairs p (Some []) = []
inherited_pairs p (Some (prop ∷ props)) = listed (text_bytes (path_text p) ++ listed (pairs_bytes (Some (prop ∷ props))))

abbrev pub props_at : History → ℕ → Path → Option Pairs
props_at h r p = option_and_then (λ n. option_map (λ row. row.props) (node_at h n)) (look h r p)

-- of the directory `above`, and of those on the way down from it
abbrev pub inherited_from : History → ℕ → Path → Path → List ℕ
inherited_from h r above [] = []
inherited_from h r above (name ∷ p) = inherited_pairs above (props_at h r above) ++ inherited_from h r (above ++ name ∷ []) p

unfoldable pub inherited_answer : History → Path → List Token → Result (List ℕ) Reason
inherited_answer h at fields = do
  place ← place_of h at fields
  n ← node_in h place.0 place.1
  Ok (success (listed (inherited_from h place.0 [] place.1)))

-- ---- dates

abbrev pub is_before : List ℕ → Option (List ℕ) → Bool
is_before date None = false
is_before date (Some known) = is_le (slice_cmp nat_cmp known date)

-- a revision has a date that isn't after this one, byte by byte
abbrev pub is_dated : List Pairs → List ℕ → ℕ → Bool
is_dated revisions date r = is_before date (value_at revisions r (codes "svn:date"))

-- the last revision of those up to r that has one, or the first of all
abbrev pub dated : List Pairs → List ℕ → ℕ → ℕ
dated revisions date zero = 0
dated revisions date (suc r) = if is_dated revisions date (suc r) then suc r else dated revisions date r

unfoldable pub dated_answer : History → List Pairs → List Token → Result (List ℕ) Reason
dated_answer h revisions fields = do
  date ← needed (text_field fields)
  Ok (success (number_bytes (dated revisions date.0 (latest h))))

-- ---- properties of revisions

unfoldable pub rev_prop_answer : History → List Pairs → List Token → Result (List ℕ) Reason
rev_prop_answer h revisions fields = do
  prop ← needed (prop_fields fields)
  r ← known_rev h prop.0
  Ok (success (optional (value_at revisions r prop.1)))

unfoldable pub rev_props_answer : History → List Pairs → List Token → Result (List ℕ) Reason
rev_props_answer h revisions fields = do
  rev ← needed (number_field fields)
  r ← known_rev h rev.0
  Ok (success (listed (pairs_bytes (slice_get revisions r))))
