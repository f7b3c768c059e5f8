-- Pristine texts: the texts of a working copy's files as they came from the repository, each named by its stand-in. A store gives the text under each
-- stand-in, where that is known.
--     IsPristine known name text      the text is the one that a stand-in names; where a text is known, it is that one
--     HasText store name      there is such a text
--     HasKept store texts name word      there is one that is kept as this word
--     Holds held text      this is held of a text
--     IsKeptAs texts store node kept_node      a file's text became what its pristine text is kept as; all else of a node is the same
--     AreKeptAs texts store nodes kept_nodes      so did all nodes of a list, at the same paths
--     StandInsStay      where texts are kept as stand-ins, the nodes are the same
--     IsTextFault known name fault      why a text isn't read: where it is said to be another, what is known is a text of another name, with no byte
--         exactly where it is said to be empty
--     IsKeepFault store nodes fault      why the nodes' texts aren't kept: a refusal is of a file of them
use Rattle.std.specs.Prelude.{◌≡◌, ◌≢◌, ◌⊎◌, ℕ, ◌-◌, ◌≤◌, ◌^◌, true, List, [], Option, IfSome}
use Rattle.md5.specs.Md5.{Holds as Md5Holds}
use Rattle.std.specs.List.{AllZip, Contains}
use Rattle.svn_types.specs.Names.{Path}
use Rattle.svn_model.specs.declared.base_node.BaseNode.{BaseNode}
use Rattle.svn_model.specs.declared.base_node.BaseNode.TheVariants.{File as FileNode, Dir as DirNode, NotPresent}
use Rattle.svn_dump.specs.declared.sections.Texts.{Texts}
use Rattle.svn_dump.specs.declared.sections.Texts.TheVariants.{Whole, Sha1, Md5}
use Rattle.svn_dump.specs.Sections.{kept}
use Rattle.svn_disk_audit.specs.declared.fault.AuditFault.{AuditFault}
use Rattle.svn_disk_audit.specs.declared.fault.AuditFault.TheVariants.{Database, Examiner, Pristine, Copy, Memory}
use Rattle.svn_disk_audit.specs.declared.fault.PristineFault.{PristineFault}
use Rattle.svn_disk_audit.specs.declared.fault.PristineFault.TheVariants.{WrongSha1, Empty, Read}
use Rattle.svn_disk_audit.specs.declared.fault.PristineRefusal.{PristineRefusal}
use Rattle.svn_disk_audit.specs.declared.pristine.Held.{Held}
use Rattle.svn_disk_audit.specs.declared.pristine.TextFault.{TextFault}
use Rattle.svn_disk_audit.specs.declared.pristine.Tries.{Tries}
use Rattle.svn_disk_audit.specs.declared.pristine.TextFault.TheVariants as texts

abbrev pub Store : Type 0
Store = List ℕ → Option (List ℕ)

abbrev pub IsKnownAs : Option (List ℕ) → List ℕ → Type 0
IsKnownAs known text = IfSome known (λ t. t ≡ text)

pub record IsPristine (known : Option (List ℕ)) (name text : List ℕ) : Type 0 where
  pub named : kept Sha1 text ≡ name
  pub same : IsKnownAs known text

abbrev pub HasText : Store → List ℕ → Type 0
HasText store name = (text : List ℕ) × IsPristine (store name) name text

abbrev pub HasKept : Store → Texts → List ℕ → List ℕ → Type 0
HasKept store texts name word = (text : List ℕ) × IsPristine (store name) name text × (word ≡ kept texts text)

-- its bytes, or its running checksum, as texts are kept
abbrev pub HoldsSo : Texts → Held → List ℕ → Type 0
HoldsSo Whole held text = held.bytes.items ≡ text
HoldsSo Sha1 held text = Unit {0}
HoldsSo Md5 held text = Md5Holds held.md5 text

abbrev pub Holds : Held → List ℕ → Type 0
Holds held text = HoldsSo held.texts held text

abbrev pub IsKeptAs : Texts → Store → BaseNode → BaseNode → Type 0
IsKeptAs texts store (FileNode r q name props) kept_node =
    (text : List ℕ) × IsPristine (store name) name text × (kept_node ≡ FileNode r q (kept texts text) props)
IsKeptAs texts store (DirNode r q complete props) kept_node = kept_node ≡ DirNode r q complete props
IsKeptAs texts store NotPresent kept_node = kept_node ≡ NotPresent

abbrev pub AreKeptAs : Texts → Store → List (Path × BaseNode) → List (Path × BaseNode) → Type 0
AreKeptAs texts store = AllZip (λ e f. (f.0 ≡ e.0) × IsKeptAs texts store e.1 f.1)

abbrev pub StandInsStay : Type 0
StandInsStay = (store : Store) (nodes kept_nodes : List (Path × BaseNode)) → AreKeptAs Sha1 store nodes kept_nodes → kept_nodes ≡ nodes

-- ---- refusals

-- a text that has another name, of which this holds
abbrev pub IsOther : (List ℕ → Type 0) → Option (List ℕ) → List ℕ → Type 0
IsOther Holds known name = (text : List ℕ) × IsKnownAs known text × (kept Sha1 text ≢ name) × Holds text

-- it is said to be empty exactly where it has no byte
abbrev pub IsRefused : Option (List ℕ) → List ℕ → PristineFault → Type 0
IsRefused known name WrongSha1 = IsOther (λ text. text ≢ []) known name
IsRefused known name Empty = IsOther (λ text. text ≡ []) known name
IsRefused known name (Read error) = Unit {0}

-- it couldn't be read to its end, or an allocation failed
abbrev pub IsReadFault : TextFault → Type 0
IsReadFault (texts.Refused WrongSha1) = ⊥
IsReadFault (texts.Refused Empty) = ⊥
IsReadFault (texts.Refused (Read error)) = Unit {0}
IsReadFault texts.Memory = Unit {0}

-- a read failed that wasn't interrupted, or there were as many as a count can say
abbrev pub HaveFailed : Tries → Type 0
HaveFailed tries = (tries.failed ≡ true) ⊎ (2 ^ 64 - 1 ≤ tries.count)

abbrev pub IsTextFault : Option (List ℕ) → List ℕ → TextFault → Type 0
IsTextFault known name (texts.Refused fault) = IsRefused known name fault
IsTextFault known name texts.Memory = Unit {0}

-- the text of a file at a path isn't kept
abbrev pub IsFileFault : {F : Type 0} → Option (List ℕ) → Path → List ℕ → AuditFault F → Type 0
IsFileFault known path name (Database refusal) = ⊥
IsFileFault known path name (Examiner fault) = Unit {0}
IsFileFault known path name (Pristine refusal) = (refusal.path ≡ path) × (refusal.stand_in ≡ name) × IsRefused known name refusal.fault
IsFileFault known path name (Copy fault) = ⊥
IsFileFault known path name Memory = Unit {0}

-- only the text of a file may be refused
abbrev pub IsNodeFault : {F : Type 0} → Store → Path → BaseNode → AuditFault F → Type 0
IsNodeFault store path (FileNode r q name props) fault = IsFileFault (store name) path name fault
IsNodeFault store path (DirNode r q complete props) fault = ⊥
IsNodeFault store path NotPresent fault = ⊥

abbrev pub IsFileOf : List ℕ → BaseNode → Type 0
IsFileOf name (FileNode r q text props) = text ≡ name
IsFileOf name (DirNode r q complete props) = ⊥
IsFileOf name NotPresent = ⊥

abbrev pub HasFile : List (Path × BaseNode) → Path → List ℕ → Type 0
HasFile nodes path name = (node : BaseNode) × Contains nodes (path, node) × IsFileOf name node

abbrev pub IsRefusedFile : Store → List (Path × BaseNode) → PristineRefusal → Type 0
IsRefusedFile store nodes refusal =
    HasFile nodes refusal.path refusal.stand_in × IsRefused (store refusal.stand_in) refusal.stand_in refusal.fault

abbrev pub IsKeepFault : {F : Type 0} → Store → List (Path × BaseNode) → AuditFault F → Type 0
IsKeepFault store nodes (Database refusal) = ⊥
IsKeepFault store nodes (Examiner fault) = Unit {0}
IsKeepFault store nodes (Pristine refusal) = IsRefusedFile store nodes refusal
IsKeepFault store nodes (Copy fault) = ⊥
IsKeepFault store nodes Memory = Unit {0}
