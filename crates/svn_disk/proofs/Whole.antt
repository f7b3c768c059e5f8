-- A copy that is whole, and on the disk, stays so: while other steps are taken, its folder gets its name, and its database is replaced.
use Rattle.std.proofs.Common.{◌≡◌, Bool, true, false, ◌&&◌, ◌⊎◌, inl, inr, not, List, [], ◌∷◌, ◌++◌, refl, sym, ◌∙◌, ap, subst, true≢false}
use Rattle.std.specs.Prelude.{ℕ, bytes_eq, codes, cond, Option, Some, None, is_some}
use Rattle.std.specs.List.{list_all}
use Rattle.std.proofs.lemmas.Bool.{and_parts}
use Rattle.svn_types.specs.Names.{Path}
use Rattle.svn_types.specs.Paths.{is_within}
use Rattle.svn_types.proofs.NameLemmas.{Name}
use Rattle.svn_types.proofs.PathLemmas.{path_eq-same}
use Rattle.svn_model.specs.declared.base_node.BaseNode.{BaseNode}
use Rattle.svn_model.specs.declared.base_node.BaseNode.TheVariants.{File as FileNode, Dir as DirNode, NotPresent}
use Rattle.svn_wcrows.specs.Copies.{StandsFor}
use Rattle.svn_folder.specs.declared.entry.Mode.{Mode}
use Rattle.svn_folder.specs.declared.entry.Entry.{Entry}
use Rattle.svn_folder.specs.declared.entry.Entry.TheVariants.{File}
use Rattle.svn_folder.specs.declared.step.Step.{Step}
use Rattle.svn_folder.specs.declared.step.Step.TheVariants.{Make, SyncFile, SyncDirectory, Rename, RenameDirectory}
use Rattle.svn_folder.specs.Entries.{has_directory}
use Rattle.svn_folder.specs.States.{Seen, Place, State, seen, fresh, becomes, with_name}
use Rattle.svn_folder.specs.Steps.{run, after, is_none_older}
use Rattle.svn_folder.specs.Crashes.{RunMayLeave}
use Rattle.svn_folder.specs.Laws.{is_firm, AreApart, IsOnDisk, CanReplace}
use Rattle.svn_folder.specs.Syncing.{IsSynced}
use Rattle.svn_folder.specs.Pasts.{Past, Known}
use Rattle.svn_folder.proofs.Showing.{put_here, sync_file-shown, sync_directory-shown}
use Rattle.svn_folder.proofs.Firm.{replaced}
use Rattle.svn_folder.proofs.Apart.{meanwhile, run_apart}
use Rattle.svn_folder.proofs.Runs.{left_former, run_join}
use Rattle.svn_folder.proofs.Settled.{on_disk}
use Rattle.svn_disk.specs.Goes.{IsAlways, Stands, Keeps, Stops}
use Rattle.svn_disk.specs.Places.{is_inside, new_database_place, text_below, text_place, database_place}
use Rattle.svn_disk.specs.Laws.{IsThereUnder}
use Rattle.svn_disk.specs.Crashes.{IsTextOf, IsDatabaseOf, OfText, EachText, IsTextIn, IsTextOn, IsWhole, IsNoCopy, IsNoneOrWhole, IsOneOf, IsFree, IsReady, IsSafe, IsBoth, IsSet, Leads, Breaks}
use Rattle.svn_disk.proofs.Going.{stands_at_first}
use Rattle.svn_disk.proofs.Leaving.{each_apart, no_copy_left}
use Rattle.svn_disk.proofs.Moving.{renamed_at_once}
use Rattle.svn_disk.proofs.Running.{stops_breaks}

abbrev svn : Name
svn = codes ".svn"

-- ---- what is the same in another folder

of_text : (P Q : List ℕ → Type 0) → ((t : List ℕ) → P t → Q t) → (node : BaseNode) → OfText P node → OfText Q node
of_text P Q f (FileNode r q t ps) h = f t h
of_text P Q f (DirNode r q c ps) h = tt
of_text P Q f NotPresent h = tt

pub each_text : (P Q : List ℕ → Type 0) → ((t : List ℕ) → P t → Q t) → (nodes : List (Path × BaseNode)) → EachText P nodes → EachText Q nodes
each_text P Q f [] h = tt
each_text P Q f (entry ∷ nodes) h = (of_text P Q f entry.1 h.0, each_text P Q f nodes h.1)

pub same_text : (t : List ℕ) (old new : Option Entry) → new ≡ old → IsTextOf t old → IsTextOf t new
same_text t old new same is = record { bytes = is.bytes; mode = is.mode; is_file = same ∙ is.is_file; is_text = is.is_text }

pub same_database : (nodes : List (Path × BaseNode)) (old new : Option Entry) → new ≡ old → IsDatabaseOf nodes old → IsDatabaseOf nodes new
same_database nodes old new same is = record { bytes = is.bytes; mode = is.mode; is_file = same ∙ is.is_file; stands = is.stands }

whole_same : (m n : Name) (nodes : List (Path × BaseNode)) (old new : Seen) → new (database_place n) ≡ old (database_place m)
    → ((t : List ℕ) → IsTextOf t (old (text_place m t)) → new (text_place n t) ≡ old (text_place m t)) → IsWhole m nodes old → IsWhole n nodes new
whole_same m n nodes old new database texts whole = record {
  database = same_database nodes (old (database_place m)) (new (database_place n)) database whole.database;
  texts = each_text (IsTextIn m old) (IsTextIn n new) (λ t is. same_text t (old (text_place m t)) (new (text_place n t)) (texts t is) is) nodes whole.texts;
}

-- ---- steps elsewhere

module _ (n : Name) (nodes : List (Path × BaseNode)) (s : State) (more : List Step) (apart : (t : List ℕ) → IsTextOn n s t → AreApart more (text_place n t)) where
  -- the texts stay, and a crash leaves them
  pub texts_apart : EachText (IsTextOn n s) nodes → EachText (IsTextOn n (run s more)) nodes
  texts_apart texts =
      each_text (IsTextOn n s) (IsTextOn n (run s more))
      (λ t is. (
        same_text t (seen s (text_place n t)) (seen (run s more) (text_place n t)) (run_apart s more (text_place n t) (apart t is)) is.0,
        (meanwhile s more (text_place n t) is.1 (apart t is)).1,
      ))
      nodes texts

  pub texts_left : EachText (IsTextOn n s) nodes → (left : Seen) → RunMayLeave s more left → EachText (IsTextIn n left) nodes
  texts_left texts left may =
      each_text (IsTextOn n s) (IsTextIn n left)
      (λ t is. same_text t (seen s (text_place n t)) (left (text_place n t)) ((meanwhile s more (text_place n t) is.1 (apart t is)).0 left may) is.0)
      nodes texts

  pub safe_apart : AreApart more (database_place n) → IsSafe n nodes s
      → IsSafe n nodes (run s more) × ((left : Seen) → RunMayLeave s more left → IsWhole n nodes left)
  safe_apart database safe =
      let stays = meanwhile s more (database_place n) safe.database.1 database in (
        record {
          database = (
            same_database nodes (seen s (database_place n)) (seen (run s more) (database_place n)) (run_apart s more (database_place n) database) safe.database.0,
            stays.1,
          );
          texts = texts_apart safe.texts;
        },
        λ left may. record {
          database = same_database nodes (seen s (database_place n)) (left (database_place n)) (stays.0 left may) safe.database.0;
          texts = texts_left safe.texts left may;
        },
      )

-- a crash now
pub safe_left : (n : Name) (nodes : List (Path × BaseNode)) (s : State) → IsSafe n nodes s → (left : Seen) → RunMayLeave s [] left → IsWhole n nodes left
safe_left n nodes s safe left may = (safe_apart n nodes s [] (λ t is. tt) tt safe).1 left may

-- the same while the texts of a new copy are there
module _ (old new : List (Path × BaseNode)) where
  pub both_apart : (s : State) (more : List Step) → AreApart more (database_place svn) → ((t : List ℕ) → IsTextOn svn s t → AreApart more (text_place svn t))
      → IsBoth old new s → IsBoth old new (run s more) × ((left : Seen) → RunMayLeave s more left → IsWhole svn old left)
  both_apart s more database texts both =
      let facts = safe_apart svn old s more texts database both.safe in
      (record { safe = facts.0; texts = texts_apart svn new s more texts both.texts }, facts.1)

pub safe_both : (nodes : List (Path × BaseNode)) (s : State) → IsSafe svn nodes s → IsBoth nodes nodes s
safe_both nodes s safe = record { safe = safe; texts = safe.texts }

-- ---- the folder gets its name

module _ (m : Name) (nodes : List (Path × BaseNode)) (other : bytes_eq m svn ≡ false) where
  module _ (s : State) (ready : IsReady m nodes s) where
    shown_on_disk : (p : Path) → is_some (seen s p) ≡ true → IsOnDisk s p
    shown_on_disk p h = on_disk s ready.synced p (ready.synced.inside p h)

    database_on_disk : IsOnDisk s (database_place m)
    database_on_disk = shown_on_disk (database_place m) (ap is_some ready.whole.database.is_file)

    text_on_disk : (t : List ℕ) → IsTextOf t (seen s (text_place m t)) → IsOnDisk s (text_place m t)
    text_on_disk t is = shown_on_disk (text_place m t) (ap is_some is.is_file)

    whole_there : (left : Seen) → IsThereUnder s m svn left → IsWhole svn nodes left
    whole_there left there =
        whole_same m svn nodes (seen s) left (there (codes "wc.db" ∷ []) database_on_disk)
        (λ t is. there (codes "pristine" ∷ text_below t) (text_on_disk t is)) ready.whole

    named_left : (left : Seen) → (left (svn ∷ []) ≡ None) ⊎ IsThereUnder s m svn left → IsNoneOrWhole nodes left
    named_left left (inl none) = inl none
    named_left left (inr there) = inr (whole_there left there)

    safe_named : IsThereUnder s m svn (seen (after (RenameDirectory m svn) s))
        → ((p : Path) → IsOnDisk s (m ∷ p) → IsOnDisk (after (RenameDirectory m svn) s) (svn ∷ p)) → IsSafe svn nodes (after (RenameDirectory m svn) s)
    safe_named there on = record {
      database = ((whole_there (seen (after (RenameDirectory m svn) s)) there).database, on (codes "wc.db" ∷ []) database_on_disk);
      texts = each_text (IsTextIn m (seen s)) (IsTextOn svn (after (RenameDirectory m svn) s))
          (λ t is. (
            same_text t (seen s (text_place m t)) (seen (after (RenameDirectory m svn) s) (text_place svn t))
                (there (codes "pristine" ∷ text_below t) (text_on_disk t is)) is,
            on (codes "pristine" ∷ text_below t) (text_on_disk t is),
          ))
          nodes ready.whole.texts;
    }

  pub ready_named : (s : State) → IsReady m nodes s
      → IsSafe svn nodes (after (RenameDirectory m svn) s)
      × ((left : Seen) → RunMayLeave s (RenameDirectory m svn ∷ []) left → IsNoneOrWhole nodes left)
  ready_named s ready =
      let law = renamed_at_once s m svn ready.synced other ready.free in
      (safe_named s ready law.1 law.2, λ left may. named_left s ready left (law.0 left may))

  -- ---- before it has its name

  inside_none : (s : State) (more : List Step) → list_all (is_inside m) more ≡ true → IsFree s → (left : Seen) → RunMayLeave s more left → IsNoneOrWhole nodes left
  inside_none s more each free left may = inl (no_copy_left m s more left other each free may)

  pub inside_breaks : (old new : Past) → Stops (is_inside m) old new → Breaks IsFree (IsNoneOrWhole nodes) old new
  inside_breaks old new stops = stops_breaks IsFree (IsNoneOrWhole nodes) IsFree (is_inside m) old new inside_none stops

  pub inside_leads : (old new : Past) → Keeps (is_inside m) old new → IsAlways IsSynced new → IsAlways (λ s. IsWhole m nodes (seen s)) new
      → Leads IsFree (IsNoneOrWhole nodes) (IsReady m nodes) old new
  inside_leads old new keeps synced whole = record {
    each = λ s steps is free.
        let now = keeps.each s steps (subst (λ (x : Past). Stands (is_inside m) s steps x) (sym is) (stands_at_first (is_inside m) s steps)) in
        let same : run s (steps ++ now.more) ≡ run (run s steps) now.more = run_join s steps now.more in
        record {
          more = now.more;
          past = now.past;
          ends = record {
            synced = subst IsSynced same (synced s (steps ++ now.more) now.past);
            free = run_apart (run s steps) now.more (svn ∷ []) (each_apart m svn [] other now.more now.each) ∙ free.free;
            whole = subst (λ (t : State). IsWhole m nodes (seen t)) same (whole s (steps ++ now.more) now.past);
          };
          meanwhile = inside_none (run s steps) now.more now.each free;
        };
  }

-- ---- the database is replaced

abbrev from : Path
from = new_database_place svn

abbrev to : Path
to = database_place svn

module _ (old new : List (Path × BaseNode)) where
  -- a database of the new copy is there
  pub record IsMade (s : State) : Type 0 where
    pub both : IsBoth old new s
    pub made : IsDatabaseOf new (seen s from)

  -- it got its name
  abbrev pub IsPut : State → Type 0
  IsPut t = (s : State) × IsSet old new s × (t ≡ after (Rename from to) s)

  pub made_there : (bytes : List ℕ) (mode : Mode) → StandsFor new bytes → (s : State) → IsBoth old new s
      → IsMade (after (Make from (File bytes mode) None) s)
      × ((left : Seen) → RunMayLeave s (Make from (File bytes mode) None ∷ []) left → IsOneOf old new left)
  made_there bytes mode stands s both =
      let facts = both_apart old new s (Make from (File bytes mode) None ∷ []) (refl, tt) (λ t is. (refl, tt)) both in (
        record {
          both = facts.0;
          made = record { bytes = bytes; mode = mode; is_file = put_here from from (fresh (File bytes mode)) s (path_eq-same from); stands = stands };
        },
        λ left may. inl (facts.1 left may),
      )

  pub set_there : (s : State) → IsMade s
      → IsSet old new (after (SyncFile from) s) × ((left : Seen) → RunMayLeave s (SyncFile from ∷ []) left → IsOneOf old new left)
  set_there s is =
      let facts = both_apart old new s (SyncFile from ∷ []) (refl, tt) (λ t on. (refl, tt)) is.both in (
        record {
          both = facts.0;
          made = same_database new (seen s from) (seen (after (SyncFile from) s) from) (sync_file-shown from s from) is.made;
          synced = refl;
        },
        λ left may. inl (facts.1 left may),
      )

  abbrev putting : List Step
  putting = Rename from to ∷ SyncDirectory (svn ∷ []) ∷ []

  module _ (s : State) (is : IsSet old new s) where
    can_replace : CanReplace s from to
    can_replace =
        record { way = is.both.safe.database.1.0; old = is.both.safe.database.1.1; new = is.synced; apart = refl; below = refl }

    putting_left : (left : Seen) → RunMayLeave s putting left → IsOneOf old new left
    putting_left left may = by ((replaced s from to left can_replace).0 may)
      where
        by : (left to ≡ seen s to) ⊎ (left to ≡ seen s from) → IsOneOf old new left
        by (inl same) = inl (record {
          database = same_database old (seen s to) (left to) same is.both.safe.database.0;
          texts = texts_left svn old s putting (λ t on. (refl, (refl, tt))) is.both.safe.texts left may;
        })
        by (inr same) = inr (record {
          database = same_database new (seen s from) (left to) same is.made;
          texts = texts_left svn new s putting (λ t on. (refl, (refl, tt))) is.both.texts left may;
        })

    -- the name of the folder is on the disk, so that its sync counts
    folder_named : is_none_older (s (svn ∷ [])).older ≡ true
    folder_named =
        let way = and_parts (is_firm (s []) && has_directory (s []).now.entry) (is_firm (s (svn ∷ [])) && has_directory (s (svn ∷ [])).now.entry && true)
        is.both.safe.database.1.0 in
        let here = and_parts (is_firm (s (svn ∷ [])) && has_directory (s (svn ∷ [])).now.entry) true way.1 in
        let firm = and_parts (is_firm (s (svn ∷ []))) (has_directory (s (svn ∷ [])).now.entry) here.0 in
        (and_parts (is_none_older (s (svn ∷ [])).older) (s (svn ∷ [])).now.is_synced firm.0).0

    abbrev ended : State
    ended = after (SyncDirectory (svn ∷ [])) (after (Rename from to) s)

    place_ended : ended to ≡ with_name (becomes (s from).now (s to))
    place_ended =
        ap (λ b. cond b (with_name (becomes (s from).now (s to))) (becomes (s from).now (s to))) folder_named

    database_ended : IsDatabaseOf new (seen ended to) × IsOnDisk ended to
    database_ended = (
      same_database new (seen s from) (seen ended to) (ap (λ (place : Place). place.now.entry) place_ended) is.made,
      (is.both.safe.database.1.0, ap is_firm place_ended ∙ is.synced),
    )

    pub put_safe : IsSafe svn new ended
    put_safe = record { database = database_ended; texts = texts_apart svn new s putting (λ t on. (refl, (refl, tt))) is.both.texts }

    pub put_there : IsPut (after (Rename from to) s) × ((left : Seen) → RunMayLeave s (Rename from to ∷ []) left → IsOneOf old new left)
    put_there = (
      (s, is, refl),
      λ left may. putting_left left (left_former s (Rename from to ∷ []) (SyncDirectory (svn ∷ []) ∷ []) left may),
    )

    put_left : (left : Seen) → RunMayLeave (after (Rename from to) s) (SyncDirectory (svn ∷ []) ∷ []) left → IsOneOf old new left
    put_left left may = putting_left left (inr (inr may))

  pub put_is_named : (t : State) → IsPut t
      → IsSafe svn new (after (SyncDirectory (svn ∷ [])) t) × ((left : Seen) → RunMayLeave t (SyncDirectory (svn ∷ []) ∷ []) left → IsOneOf old new left)
  put_is_named t (s, is, same) =
      subst (λ (x : State). IsSafe svn new (after (SyncDirectory (svn ∷ [])) x)
      × ((left : Seen) → RunMayLeave x (SyncDirectory (svn ∷ []) ∷ []) left → IsOneOf old new left))
      (sym same) (put_safe s is, put_left s is)
