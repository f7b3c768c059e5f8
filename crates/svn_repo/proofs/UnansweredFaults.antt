-- No change is refused because a number or memory ran out.
use Rattle.std.proofs.Common.{◌≡◌, ◌≢◌, ℕ, ◌+◌, ◌-◌, Bool, true, false, cond, List, [], ◌∷◌, length, take, Option, Some, None, sym, ap, ◌∙◌}
use Rattle.std.proofs.Common.{◌⊎◌, inl, inr}
use Rattle.std.specs.Prelude.{nat_lt, nat_le}
use Rattle.std.specs.Option.{option_or, is_some}
use Rattle.svn_repo.specs.declared.change.Change.{Change}
use Rattle.svn_repo.specs.declared.change.Change.TheVariants.{MakeDir, PutFile, SetProp, Remove, CopyFrom}
use Rattle.svn_repo.specs.declared.change.CommitFault.{CommitFault}
use Rattle.svn_repo.specs.declared.change.CommitFault.TheVariants.{Exists, NotDir, NotFile, TooDeep, NoSuchRevision, TooLong, Full, Memory}
use Rattle.svn_types.specs.Names.{Path}
use Rattle.svn_repo.specs.History.{History, Nodes, node_at, look, reaches}
use Rattle.svn_types.specs.Limits.{path_limit, size_limit}
use Rattle.svn_repo.specs.Trees.{Place, Tree, tree_at, is_directory_place}
use Rattle.svn_repo.specs.Changes.{Pending, directory_fault, above_fault, missing_fault, fault_if, root_fault, depth_fault, size_fault}
use Rattle.svn_repo.specs.Changes.{value_fault, walk_fault, revision_fault, copy_depth_fault, copy_fault, change_fault, after_change}
use Rattle.svn_repo.specs.Changes.{changes_fault, AreRefused}

abbrev IsOther : Option CommitFault → Type 0
IsOther o = (o ≢ Some Full) × (o ≢ Some Memory)

abbrev is_other : CommitFault → Type 0
is_other e = (e ≢ Full) × (e ≢ Memory)

or_other : (a b : Option CommitFault) → IsOther a → IsOther b → IsOther (option_or a b)
or_other None b h k = k
or_other (Some e) b h k = h

if_other : (b : Bool) (e : CommitFault) → is_other e → IsOther (fault_if b e)
if_other true e h = (λ q. h.0 (cc), λ q. h.1 (cc))
if_other false e h = (λ q. cc, λ q. cc)

missing_other : (o : Option Place) → IsOther (missing_fault o)
missing_other None = (λ q. cc, λ q. cc)
missing_other (Some p) = (λ q. cc, λ q. cc)

directory_other : (o : Option Place) → IsOther (directory_fault o)
directory_other None = (λ q. cc, λ q. cc)
directory_other (Some p) = by (is_directory_place (Some p))
  where
    by : (b : Bool) → IsOther (cond b None (Some NotDir))
    by true = (λ q. cc, λ q. cc)
    by false = (λ q. cc, λ q. cc)

above_other : (t : Tree) (p : Path) → IsOther (above_fault t p)
above_other t [] = (λ q. cc, λ q. cc)
above_other t (name ∷ p) = or_other (directory_fault (t [])) (above_fault (λ q. t (name ∷ q)) p) (directory_other (t []))
    (above_other (λ q. t (name ∷ q)) p)

root_other : (p : Path) → IsOther (root_fault p)
root_other [] = (λ q. cc, λ q. cc)
root_other (name ∷ p) = (λ q. cc, λ q. cc)

depth_other : (p : Path) → IsOther (depth_fault p)
depth_other p = if_other (nat_lt path_limit (length p)) TooDeep (λ q. cc, λ q. cc)

size_other : (text : List ℕ) → IsOther (size_fault text)
size_other text = if_other (nat_lt size_limit (length text)) TooLong (λ q. cc, λ q. cc)

value_other : (value : Option (List ℕ)) → IsOther (value_fault value)
value_other None = (λ q. cc, λ q. cc)
value_other (Some v) = size_other v

walk_other : (t : Tree) (p : Path) → IsOther (walk_fault t p)
walk_other t p = or_other (above_fault t p) (missing_fault (t p)) (above_other t p) (missing_other (t p))

copy_depth_other : (f : Nodes) (o : Option ℕ) (p : Path) → IsOther (copy_depth_fault f o p)
copy_depth_other f None p = (λ q. cc, λ q. cc)
copy_depth_other f (Some n) p = if_other (reaches f (path_limit + 1 - length p) n) TooDeep (λ q. cc, λ q. cc)

copy_other : (h : History) (t : Tree) (rev : ℕ) (source p : Path) → IsOther (copy_fault h t rev source p)
copy_other h t rev source p =
    or_other (revision_fault h rev) _ (if_other (nat_le (length h.roots) rev) NoSuchRevision (λ q. cc, λ q. cc))
    (or_other (walk_fault (tree_at h rev) source) _ (walk_other (tree_at h rev) source)
    (or_other (above_fault t p) _ (above_other t p)
    (or_other (fault_if (is_some (t p)) Exists) _ (if_other (is_some (t p)) Exists (λ q. cc, λ q. cc))
    (copy_depth_other (node_at h) (look h rev source) p))))

pub change_other : (h : History) (s : Pending) (c : Change) → IsOther (change_fault h s c)
change_other h s (MakeDir p) =
    or_other (root_fault p) _ (root_other p) (or_other (above_fault s.tree p) _ (above_other s.tree p)
    (or_other (fault_if (is_some (s.tree p)) Exists) _ (if_other (is_some (s.tree p)) Exists (λ q. cc, λ q. cc)) (depth_other p)))
change_other h s (PutFile p text) =
    or_other (root_fault p) _ (root_other p) (or_other (size_fault text) _ (size_other text)
    (or_other (above_fault s.tree p) _ (above_other s.tree p)
    (or_other (fault_if (is_directory_place (s.tree p)) NotFile) _ (if_other (is_directory_place (s.tree p)) NotFile (λ q. cc, λ q. cc))
    (depth_other p))))
change_other h s (SetProp p name value) = or_other (value_fault value) _ (value_other value) (walk_other s.tree p)
change_other h s (Remove p) = or_other (root_fault p) _ (root_other p) (walk_other s.tree p)
change_other h s (CopyFrom rev source p) = or_other (root_fault p) _ (root_other p) (copy_other h s.tree rev source p)

changes_other : (h : History) (s : Pending) (cs : List Change) → IsOther (changes_fault h s cs)
changes_other h s [] = (λ q. cc, λ q. cc)
changes_other h s (c ∷ cs) = or_other (change_fault h s c) (changes_fault h (after_change h s c) cs) (change_other h s c)
    (changes_other h (after_change h s c) cs)

pub never_full : (h : History) (s : Pending) (cs : List Change) (e : CommitFault) → AreRefused h s cs e → e ≢ Full
never_full h s cs e (inl m) = λ q. let bad : Memory ≡ Full = sym m.0 ∙ q in cc
never_full h s cs e (inr f) = λ q. (changes_other h s cs).0 (f ∙ ap Some q)

pub first_can_be_made : (h : History) (s : Pending) (cs : List Change) (e : CommitFault) → AreRefused h s cs e → e ≡ Memory
    → changes_fault h s (take 1 cs) ≡ None
first_can_be_made h s cs e (inl m) q = m.1
first_can_be_made h s cs e (inr f) q = absurd ((changes_other h s cs).1 (f ∙ ap Some q))

pub refused_so : (h : History) (s : Pending) (cs : List Change) (e : CommitFault) → AreRefused h s cs e
    → (e ≡ Memory) ⊎ (changes_fault h s cs ≡ Some e)
refused_so h s cs e (inl m) = inl m.0
refused_so h s cs e (inr f) = inr f
