-- What a folder shows when it is read back.
use Rattle.std.proofs.Common.{◌≡◌, Bool, true, List, [], ◌∷◌, refl, sym, ◌∙◌, ap, subst, true≢false, false}
use Rattle.std.specs.Prelude.{ℕ, ◌↔◌, Option, Some, None, Result, Ok, Err, IfOk, IsTrue}
use Rattle.std.specs.Option.{option_map}
use Rattle.svn_types.specs.Names.{Path}
use Rattle.svn_types.proofs.NameLemmas.{Name}
use Rattle.svn_digits.specs.StandIns.{stand_in_of}
use Rattle.svn_model.specs.declared.base_node.BaseNode.{BaseNode}
use Rattle.svn_model.specs.declared.base_node.BaseNode.TheVariants.{File as FileNode, Dir as DirNode, NotPresent}
use Rattle.svn_wcrows.specs.Copies.{StandsFor}
use Rattle.svn_folder.specs.declared.entry.Mode.{Mode}
use Rattle.svn_folder.specs.declared.entry.Entry.{Entry}
use Rattle.svn_folder.specs.declared.entry.Entry.TheVariants.{File, Directory, Link}
use Rattle.svn_folder.specs.declared.summary.Summary.{Summary}
use Rattle.svn_folder.specs.declared.summary.Summary.TheVariants as summary
use Rattle.svn_folder.specs.declared.step.Step.{Step}
use Rattle.svn_folder.specs.States.{State, seen}
use Rattle.svn_folder.specs.Steps.{run}
use Rattle.svn_folder.specs.Summaries.{summary_of, Sums}
use Rattle.svn_folder.specs.Pasts.{Past, Known, Shows}
use Rattle.svn_disk.specs.Goes.{IsAlways}
use Rattle.svn_disk.specs.Places.{text_place, database_place}
use Rattle.svn_disk.specs.Plans.{present_nodes, text_of_node}
use Rattle.svn_disk.specs.Crashes.{HasBytes, HasName, IsTextOf, IsTextIn, IsDatabaseOf, OfText, EachText, IsWhole}

-- ---- the database

pub stands_same : {nodes other : List (Path × BaseNode)} → {bytes : List ℕ} → nodes ≡ other → StandsFor nodes bytes → StandsFor other bytes
stands_same {bytes = bytes} same stands = subst (λ n. StandsFor n bytes) same stands

pub shows_bytes : (now : Past) (p : Path) (entry : Entry) (image : List ℕ) → HasBytes image (Some entry) → Shows now p (Some entry)
    → IsAlways (λ s. HasBytes image (seen s p)) now
shows_bytes now p entry image has shows s steps is = (has.0, sym (subst (λ (x : Past). Shows x p (Some entry)) is shows) ∙ has.1)

-- ---- texts

sum_in : Option Summary → List ℕ
sum_in (Some (summary.File len sha1 mode)) = sha1
sum_in (Some summary.Directory) = []
sum_in (Some (summary.Link target)) = []
sum_in None = []

is_file : Option Summary → Bool
is_file (Some (summary.File len sha1 mode)) = true
is_file _ = false

text_found : (name : List ℕ) (len : ℕ) (sum : List ℕ) (mode : Mode) (found : Option Entry) → stand_in_of sum ≡ name
    → Some (summary.File len sum mode) ≡ option_map summary_of found → IsTextOf name found
unfolding is_file sum_in
text_found name len sum mode (Some (File bytes m)) is e =
    record { bytes = bytes; mode = m; is_file = refl; is_text = ap stand_in_of (sym (ap sum_in e)) ∙ is }
text_found name len sum mode (Some Directory) is e = absurd (true≢false (ap is_file e))
text_found name len sum mode (Some (Link target)) is e = absurd (true≢false (ap is_file e))
text_found name len sum mode None is e = absurd (true≢false (ap is_file e))

named_text : (name : List ℕ) (found : Summary) (e : Option Entry) → HasName name found → Some found ≡ option_map summary_of e → IsTextOf name e
named_text name (summary.File len sum mode) e is same = text_found name len sum mode e is same
named_text name summary.Directory e none same = absurd none
named_text name (summary.Link target) e none same = absurd none

-- what a summary is of
text_named : (name : List ℕ) (found : Summary) (e : Option Entry) → Some found ≡ option_map summary_of e → IsTextOf name e → HasName name found
text_named name found e same is =
    subst (HasName name) (sym (given found (summary_of (File is.bytes is.mode)) (same ∙ ap (option_map summary_of) is.is_file))) is.is_text
  where
    in_some : Summary → Option Summary → Summary
    in_some d (Some x) = x
    in_some d None = d

    given : (a b : Summary) → Some a ≡ Some b → a ≡ b
    given a b e = ap (in_some a) e

no_text : (name : List ℕ) (e : Option Entry) → None ≡ option_map summary_of e → IsTextOf name e → ⊥
no_text name e same is = true≢false (sym (ap some (same ∙ ap (option_map summary_of) is.is_file)))
  where
    some : Option Summary → Bool
    some (Some x) = true
    some None = false

pub sums_text : (now : Past) (p : Path) (name : List ℕ) (found : Summary) → HasName name found → Sums now p (Some found) → IsAlways (λ s. IsTextOf name (seen s p)) now
sums_text now p name found is sums s steps known =
    named_text name found (seen (run s steps) p) is (subst (λ (x : Past). Sums x p (Some found)) known sums)

pub sums_other : (now : Past) (p : Path) (name : List ℕ) (found : Summary) → (HasName name found → ⊥) → Sums now p (Some found)
    → IsAlways (λ s. IsTextOf name (seen s p) → ⊥) now
sums_other now p name found other sums s steps known is =
    other (text_named name found (seen (run s steps) p) (subst (λ (x : Past). Sums x p (Some found)) known sums) is)

pub sums_none : (now : Past) (p : Path) (name : List ℕ) → Sums now p None → IsAlways (λ s. IsTextOf name (seen s p) → ⊥) now
sums_none now p name sums s steps known is = no_text name (seen (run s steps) p) (subst (λ (x : Past). Sums x p None) known sums) is

-- by whether it has that name
pub summed_there : {E : Type 0} → (now : Past) (p : Path) (name : List ℕ) (found : Summary) (result : Result Bool E) → Sums now p (Some found)
    → IfOk result (λ has. IsTrue has ↔ HasName name found) → IfOk result (λ has. has ≡ true → IsAlways (λ s. IsTextOf name (seen s p)) now)
summed_there now p name found (Ok has) sums either = λ h. sums_text now p name found (either.0 h) sums
summed_there now p name found (Err fault) sums either = tt

pub summed_other : {E : Type 0} → (now : Past) (p : Path) (name : List ℕ) (found : Summary) (result : Result Bool E) → Sums now p (Some found)
    → IfOk result (λ has. IsTrue has ↔ HasName name found) → IfOk result (λ has. has ≡ false → IsAlways (λ s. IsTextOf name (seen s p) → ⊥) now)
summed_other now p name found (Ok has) sums either = λ h. sums_other now p name found (λ is. true≢false (sym (either.1 is) ∙ h)) sums
summed_other now p name found (Err fault) sums either = tt

-- of a node

pub text_of_file : (P : State → List ℕ → Type 0) (now : Past) (node : BaseNode) (t : List ℕ) → Some t ≡ text_of_node node → IsAlways (λ s. P s t) now
    → IsAlways (λ s. OfText (P s) node) now
text_of_file P now (FileNode r q t ps) name is always s steps known = subst (P (run s steps)) (given name t is) (always s steps known)
  where
    in_some : List ℕ → Option (List ℕ) → List ℕ
    in_some d (Some x) = x
    in_some d None = d

    given : (a b : List ℕ) → Some a ≡ Some b → a ≡ b
    given a b e = ap (in_some a) e
text_of_file P now (DirNode r q c ps) name is always s steps known = tt
text_of_file P now NotPresent name is always s steps known = tt

pub no_file : (P : State → List ℕ → Type 0) (now : Past) (node : BaseNode) → text_of_node node ≡ None → IsAlways (λ s. OfText (P s) node) now
no_file P now (FileNode r q t ps) is s steps known = absurd (true≢false (ap some is))
  where
    some : Option (List ℕ) → Bool
    some (Some x) = true
    some None = false
no_file P now (DirNode r q c ps) is s steps known = tt
no_file P now NotPresent is s steps known = tt

-- one more node
pub next_text : (P : State → List ℕ → Type 0) (now : Past) (copy rest more : List (Path × BaseNode)) (p : Path) (node : BaseNode) → rest ≡ (p, node) ∷ more
    → IsAlways (λ s. OfText (P s) node) now → IsAlways (λ s. EachText (P s) rest → EachText (P s) copy) now
    → IsAlways (λ s. EachText (P s) more → EachText (P s) copy) now
next_text P now copy rest more p node is here before s steps known later =
    before s steps known (subst (EachText (P (run s steps))) (sym is) (here s steps known, later))

pub no_more : (P : State → List ℕ → Type 0) (now : Past) (copy rest : List (Path × BaseNode)) → rest ≡ []
    → IsAlways (λ s. EachText (P s) rest → EachText (P s) copy) now → IsAlways (λ s. EachText (P s) copy) now
no_more P now copy rest is before s steps known = before s steps known (subst (EachText (P (run s steps))) (sym is) tt)

-- ---- all of it

pub each_present : (P : List ℕ → Type 0) (copy : List (Path × BaseNode)) → EachText P copy → EachText P (present_nodes copy)
each_present P [] h = tt
each_present P ((p, FileNode r q t ps) ∷ copy) h = (h.0, each_present P copy h.1)
each_present P ((p, DirNode r q c ps) ∷ copy) h = (tt, each_present P copy h.1)
each_present P ((p, NotPresent) ∷ copy) h = each_present P copy h.1

pub whole_shown : (n : Name) (copy : List (Path × BaseNode)) (image : List ℕ) (now : Past) → StandsFor (present_nodes copy) image
    → IsAlways (λ s. HasBytes image (seen s (database_place n))) now → IsAlways (λ s. EachText (IsTextIn n (seen s)) copy) now
    → IsAlways (λ s. IsWhole n (present_nodes copy) (seen s)) now
whole_shown n copy image now stands database texts s steps known =
    let found = database s steps known in
    record {
      database = record { bytes = image; mode = found.0; is_file = found.1; stands = stands };
      texts = each_present (IsTextIn n (seen (run s steps))) copy (texts s steps known);
    }
