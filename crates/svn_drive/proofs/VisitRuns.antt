-- What the calls of a visit lead to, put together from its parts.
use Rattle.std.proofs.Common.{◌≡◌, ℕ, ◌+◌, ◌≤◌, Bool, false, List, [], ◌∷◌, ◌++◌, length, refl, sym, ◌∙◌, ap, subst, append_assoc}
use Rattle.std.proofs.Common.{append-nil, arith}
use Rattle.std.specs.Prelude.{Option, None, cond, Result, Ok, Err}
use Rattle.svn_types.proofs.NameLemmas.{Name}
use Rattle.svn_types.specs.Names.{Path}
use Rattle.svn_types.specs.Paths.{child}
use Rattle.svn_types.specs.declared.kind.Kind.{Kind}
use Rattle.svn_types.specs.declared.kind.Kind.TheVariants.{File, Directory}
use Rattle.svn_editor.specs.declared.call.Call.{Call}
use Rattle.svn_editor.specs.declared.call.Call.TheVariants.{CloseDirectory}
use Rattle.svn_editor.specs.declared.fault.EditFault.{EditFault}
use Rattle.svn_editor.specs.Editing.{Leads}
use Rattle.svn_model.specs.declared.stop.Stop.{Stop}
use Rattle.svn_model.specs.declared.stop.Stop.TheVariants.{Memory}
use Rattle.svn_model.specs.Ends.{Makes, Runs}
use Rattle.svn_model.specs.Follow.{DriveInput, target_node}
use Rattle.svn_model.specs.Steps.{gone_actions}
use Rattle.std.specs.Prelude.{map}
use Rattle.svn_types.specs.Props.{PropChange}
use Rattle.svn_editor.specs.Steps.{Action, Change}
use Rattle.svn_model.specs.Tree.{names_below, is_entered, is_late, entry_actions, file_end, last_of}
use Rattle.svn_model.specs.TreeCalls.{call_at, calls_at, sizes, in_turn, visit_size, visit_calls}
use Rattle.svn_drive.specs.Walking.{IsEntered, entered_calls}
use Rattle.svn_drive.proofs.RunLemmas.{run_then, run_stops, run_memory}
use Rattle.svn_drive.proofs.Visits.{rest_of, visit_after_delete, visit-not_entered, visit-not_there, visit-entered}

module _ {E : Type 0} (answers : E → Call → Result (Unit {0}) EditFault → E → Type 0) (limit : Option ℕ) where
  abbrev pub Run : List Call → Result (Unit {0}) Stop → E → E → ℕ → ℕ → Type 0
  Run calls r e f a b = Runs answers limit {X = Unit {0}} calls r e f a b

  pub run_as : (xs ys : List Call) (r : Result (Unit {0}) Stop) (e f : E) (a b : ℕ) → ys ≡ xs → Run xs r e f a b → Run ys r e f a b
  run_as xs ys r e f a b q h = subst (λ l. Run l r e f a b) (sym q) h

  module _ (d : DriveInput) (late : Bool) (p : Path) (parent own : ℕ) (short : length p ≤ 128) (e : E) (a : ℕ) where
    abbrev delete : List Call
    delete = calls_at p parent own (gone_actions d p)

    pub visit_stopped : (s : Stop) (f : E) (b : ℕ) → Run delete (Err s) e f a b → Run (visit_calls d late p parent own) (Err s) e f a b
    visit_stopped s f b h =
        run_as (delete ++ rest_of d late p parent own) (visit_calls d late p parent own) (Err s) e f a b
        (visit_after_delete d late p parent own short) (run_stops answers limit delete (rest_of d late p parent own) s e f a b h)

    pub visit_left : (f : E) (b : ℕ) → is_entered d p ≡ false → Run delete (Ok tt) e f a b
        → Run (visit_calls d late p parent own) (Ok tt) e f a b
    visit_left f b q h = run_as delete (visit_calls d late p parent own) (Ok tt) e f a b (visit-not_entered d late p parent own short q) h

    pub visit_absent : (f : E) (b : ℕ) → target_node d p ≡ None → Run delete (Ok tt) e f a b
        → Run (visit_calls d late p parent own) (Ok tt) e f a b
    visit_absent f b q h = run_as delete (visit_calls d late p parent own) (Ok tt) e f a b (visit-not_there d late p parent own short q) h

    pub visit_whole : (n : ℕ) (k : Kind) → IsEntered d p n k → (r : Result (Unit {0}) Stop) (m f : E) (b c next : ℕ) → next ≡ own
        → Run delete (Ok tt) e m a b → Run (entered_calls d late p parent next n k) r m f b c
        → Run (visit_calls d late p parent own) r e f a c
    visit_whole n k i r m f b c next q h g =
        run_as (delete ++ entered_calls d late p parent own n k) (visit_calls d late p parent own) r e f a c
        (visit-entered d late p parent own n k short i)
        (run_then answers limit delete (entered_calls d late p parent own n k) r e m f a b c h
        (subst (λ x. Run (entered_calls d late p parent x n k) r m f b c) q g))

  -- ---- what is entered

  module _ (d : DriveInput) (late : Bool) (p : Path) (parent own n : ℕ) (e : E) (a : ℕ) where
    abbrev entry : Kind → List Call
    entry k = calls_at p parent own (entry_actions d p n k)

    pub entered_stopped : (k : Kind) (s : Stop) (f : E) (b : ℕ) → Run (entry k) (Err s) e f a b
        → Run (entered_calls d late p parent own n k) (Err s) e f a b
    entered_stopped Directory s f b h = run_stops answers limit (entry Directory) _ s e f a b h
    entered_stopped File s f b h = run_stops answers limit (entry File) _ s e f a b h

    pub entered_file : (r : Result (Unit {0}) Stop) (m f : E) (b c : ℕ) → Run (entry File) (Ok tt) e m a b
        → Run (calls_at p parent own (cond (is_late d late p) [] (file_end d p n))) r m f b c
        → Run (entered_calls d late p parent own n File) r e f a c
    entered_file r m f b c h g =
        run_then answers limit (entry File) (calls_at p parent own (cond (is_late d late p) [] (file_end d p n))) r e m f a b c h g

    abbrev under : List Call
    under = in_turn (λ q x. visit_calls d late q own x) (visit_size d) p (own + 1) (names_below d p)

    pub entered_below : (s : Stop) (m f : E) (b c : ℕ) → Run (entry Directory) (Ok tt) e m a b → Run under (Err s) m f b c
        → Run (entered_calls d late p parent own n Directory) (Err s) e f a c
    entered_below s m f b c h g =
        run_then answers limit (entry Directory) (under ++ calls_at p parent own (last_of Directory)) (Err s) e m f a b c h
        (run_stops answers limit under (calls_at p parent own (last_of Directory)) s m f b c g)

    pub entered_directory : (r : Result (Unit {0}) Stop) (m m' f : E) (b b' c : ℕ) → Run (entry Directory) (Ok tt) e m a b
        → Run under (Ok tt) m m' b b' → Run (CloseDirectory own ∷ []) r m' f b' c
        → Run (entered_calls d late p parent own n Directory) r e f a c
    entered_directory r m m' f b b' c h g i =
        run_then answers limit (entry Directory) (under ++ calls_at p parent own (last_of Directory)) r e m f a b c h
        (run_then answers limit under (CloseDirectory own ∷ []) r m m' f b b' c g i)

  -- ---- name by name

  -- what was called so far, and what is left, are together the calls of all names
  abbrev pub SoFar : (ℕ → List Name → List Call) → (List Name → ℕ) → ℕ → List Name → E → ℕ → ℕ → List Name → E → ℕ → Type 0
  SoFar calls size first names e made next rest m now =
      (done : List Call) × Leads answers done e m × Makes limit made (length done) now × (done ++ calls next rest ≡ calls first names)
      × (next + size rest ≡ first + size names)

  module _ (f : Path → ℕ → List Call) (size : Path → ℕ) (p : Path) (first : ℕ) (names : List Name) (e : E) (made : ℕ) where
    abbrev calls : ℕ → List Name → List Call
    calls = in_turn f size p

    abbrev Far : ℕ → List Name → E → ℕ → Type 0
    Far next rest m now = SoFar calls (sizes size p) first names e made next rest m now

    -- the next name's calls, up to a stop
    pub name_stopped : (next : ℕ) (name : Name) (rest : List Name) (m g : E) (now b : ℕ) (s : Stop) → Far next (name ∷ rest) m now
        → Run (f (child p name) next) (Err s) m g now b → Run (calls first names) (Err s) e g made b
    name_stopped next name rest m g now b s h k =
        run_as (h.0 ++ calls next (name ∷ rest)) (calls first names) (Err s) e g made b (sym h.3)
        (run_then answers limit h.0 (calls next (name ∷ rest)) (Err s) e m g made now b (h.1, h.2)
        (run_stops answers limit (f (child p name) next) (calls (next + size (child p name)) rest) s m g now b k))

    -- memory is refused between
    pub names_memory : (next : ℕ) (rest : List Name) (m : E) (now : ℕ) → Far next rest m now
        → Run (calls first names) (Err Memory) e m made now
    names_memory next rest m now h =
        run_as (h.0 ++ calls next rest) (calls first names) (Err Memory) e m made now (sym h.3)
        (run_then answers limit h.0 (calls next rest) (Err Memory) e m m made now now (h.1, h.2)
        (run_memory answers limit (calls next rest) m now))

    -- all of the next name's calls
    pub name_done : (next next' : ℕ) (name : Name) (rest : List Name) (m g : E) (now b : ℕ) → Far next (name ∷ rest) m now
        → Run (f (child p name) next) (Ok tt) m g now b → next' ≡ next + size (child p name) → Far next' rest g b
    name_done next next' name rest m g now b h k q =
        let run = run_then answers limit h.0 (f (child p name) next) (Ok tt) e m g made now b (h.1, h.2) k in (
          h.0 ++ f (child p name) next,
          run.0,
          run.1,
          ap (λ x. (h.0 ++ f (child p name) next) ++ calls x rest) q
              ∙ append_assoc h.0 (f (child p name) next) (calls (next + size (child p name)) rest) ∙ h.3,
          (let z = h.4 in omega arith),
        )

    pub names_done : (next : ℕ) (m : E) (now : ℕ) → Far next [] m now → Run (calls first names) (Ok tt) e m made now
    names_done next m now h =
        run_as (h.0 ++ []) (calls first names) (Ok tt) e m made now (sym h.3)
        (subst (λ l. Run l (Ok tt) e m made now) (sym (append-nil h.0)) (h.1, h.2))

  -- ---- as the parts of the walk say it

  pub visit_at : (d : DriveInput) (late : Bool) (q q' : Path) (parent parent' next : ℕ) (r : Result (Unit {0}) Stop) (e f : E) (a b : ℕ)
      → q ≡ q' → parent ≡ parent' → Run (visit_calls d late q parent next) r e f a b → Run (visit_calls d late q' parent' next) r e f a b
  visit_at d late q q' parent parent' next r e f a b s t h =
      subst (λ x. Run (visit_calls d late x parent' next) r e f a b) s (subst (λ x. Run (visit_calls d late q x next) r e f a b) t h)

  module _ (d : DriveInput) (late : Bool) (p : Path) (parent own n : ℕ) (e : E) (a tok : ℕ) (w : tok ≡ own) (k : Kind) where
    abbrev pub entry_as : List Call
    entry_as = calls_at p parent tok (entry_actions d p n k)

    entry_own : (z : Kind) (r : Result (Unit {0}) Stop) (m : E) (b : ℕ) → k ≡ z → Run entry_as r e m a b
        → Run (calls_at p parent own (entry_actions d p n z)) r e m a b
    entry_own z r m b q h =
        subst (λ x. Run (calls_at p parent own (entry_actions d p n x)) r e m a b) q
        (subst (λ x. Run (calls_at p parent x (entry_actions d p n k)) r e m a b) w h)

    pub entered_stopped_as : (s : Stop) (f : E) (b : ℕ) → Run entry_as (Err s) e f a b
        → Run (entered_calls d late p parent own n k) (Err s) e f a b
    entered_stopped_as s f b h = entered_stopped d late p parent own n e a k s f b (entry_own k (Err s) f b refl h)

    pub entered_file_as : k ≡ File → (r : Result (Unit {0}) Stop) (m f : E) (b c : ℕ) → Run entry_as (Ok tt) e m a b
        → Run (calls_at p parent tok (cond (is_late d late p) [] (file_end d p n))) r m f b c
        → Run (entered_calls d late p parent own n k) r e f a c
    entered_file_as q r m f b c h g =
        subst (λ z. Run (entered_calls d late p parent own n z) r e f a c) (sym q)
        (entered_file d late p parent own n e a r m f b c (entry_own File (Ok tt) m b q h)
        (subst (λ x. Run (calls_at p parent x (cond (is_late d late p) [] (file_end d p n))) r m f b c) w g))

    abbrev pub under_as : ℕ → List Call
    under_as next = in_turn (λ q x. visit_calls d late q tok x) (visit_size d) p next (names_below d p)

    under_own : (next : ℕ) (r : Result (Unit {0}) Stop) (m f : E) (b c : ℕ) → next ≡ own + 1 → Run (under_as next) r m f b c
        → Run (under d late p parent own n e a) r m f b c
    under_own next r m f b c q h =
        subst (λ x. Run (in_turn (λ q y. visit_calls d late q own y) (visit_size d) p x (names_below d p)) r m f b c) q
        (subst (λ x. Run (in_turn (λ q y. visit_calls d late q x y) (visit_size d) p next (names_below d p)) r m f b c) w h)

    pub entered_below_as : k ≡ Directory → (s : Stop) (next : ℕ) (m f : E) (b c : ℕ) → next ≡ own + 1 → Run entry_as (Ok tt) e m a b
        → Run (under_as next) (Err s) m f b c → Run (entered_calls d late p parent own n k) (Err s) e f a c
    entered_below_as q s next m f b c t h g =
        subst (λ z. Run (entered_calls d late p parent own n z) (Err s) e f a c) (sym q)
        (entered_below d late p parent own n e a s m f b c (entry_own Directory (Ok tt) m b q h) (under_own next (Err s) m f b c t g))

    pub entered_directory_as : k ≡ Directory → (r : Result (Unit {0}) Stop) (next : ℕ) (m m' f : E) (b b' c : ℕ) → next ≡ own + 1
        → Run entry_as (Ok tt) e m a b → Run (under_as next) (Ok tt) m m' b b' → Run (CloseDirectory tok ∷ []) r m' f b' c
        → Run (entered_calls d late p parent own n k) r e f a c
    entered_directory_as q r next m m' f b b' c t h g i =
        subst (λ z. Run (entered_calls d late p parent own n z) r e f a c) (sym q)
        (entered_directory d late p parent own n e a r m m' f b b' c (entry_own Directory (Ok tt) m b q h)
        (under_own next (Ok tt) m m' b b' t g)
        (subst (λ x. Run (CloseDirectory x ∷ []) r m' f b' c) w i))

  -- ---- call after call

  abbrev pub Done : List Call → E → ℕ → List Call → E → ℕ → Type 0
  Done all e made rest m now = (done : List Call) × Leads answers done e m × Makes limit made (length done) now × (done ++ rest ≡ all)

  module _ (all : List Call) (e : E) (made : ℕ) where
    pub call_stopped : (c : Call) (rest : List Call) (m f : E) (now b : ℕ) (s : Stop) → Done all e made (c ∷ rest) m now
        → Run (c ∷ []) (Err s) m f now b → Run all (Err s) e f made b
    call_stopped c rest m f now b s h k =
        run_as (h.0 ++ c ∷ rest) all (Err s) e f made b (sym h.3)
        (run_then answers limit h.0 (c ∷ rest) (Err s) e m f made now b (h.1, h.2) (run_stops answers limit (c ∷ []) rest s m f now b k))

    pub calls_memory : (rest : List Call) (m : E) (now : ℕ) → Done all e made rest m now → Run all (Err Memory) e m made now
    calls_memory rest m now h =
        run_as (h.0 ++ rest) all (Err Memory) e m made now (sym h.3)
        (run_then answers limit h.0 rest (Err Memory) e m m made now now (h.1, h.2) (run_memory answers limit rest m now))

    pub call_done : (c : Call) (rest : List Call) (m f : E) (now b : ℕ) → Done all e made (c ∷ rest) m now → Run (c ∷ []) (Ok tt) m f now b
        → Done all e made rest f b
    call_done c rest m f now b h k =
        let run = run_then answers limit h.0 (c ∷ []) (Ok tt) e m f made now b (h.1, h.2) k in
        (h.0 ++ c ∷ [], run.0, run.1, append_assoc h.0 (c ∷ []) rest ∙ h.3)

    pub calls_done : (m : E) (now : ℕ) → Done all e made [] m now → Run all (Ok tt) e m made now
    calls_done m now h =
        run_as (h.0 ++ []) all (Ok tt) e m made now (sym h.3) (subst (λ l. Run l (Ok tt) e m made now) (sym (append-nil h.0)) (h.1, h.2))

  -- ---- an entry and its changes

  -- a change names its token alone
  changes_anywhere : (p : Path) (parent tok : ℕ) (k : Kind) (cs : List PropChange)
      → calls_at p parent tok (map (Change k) cs) ≡ calls_at [] 0 tok (map (Change k) cs)
  changes_anywhere p parent tok k [] = refl
  changes_anywhere p parent tok File (c ∷ cs) =
      ap (λ (l : List Call). call_at [] 0 tok (Change File c) ∷ l) (changes_anywhere p parent tok File cs)
  changes_anywhere p parent tok Directory (c ∷ cs) =
      ap (λ (l : List Call). call_at [] 0 tok (Change Directory c) ∷ l) (changes_anywhere p parent tok Directory cs)

  module _ (p : Path) (parent tok : ℕ) (enter : Action) (call : Call) (same : call ≡ call_at p parent tok enter) (e : E) (a : ℕ) where
    pub entry_refused : (rest : List Action) (s : Stop) (f : E) (b : ℕ) → Run (call ∷ []) (Err s) e f a b
        → Run (calls_at p parent tok (enter ∷ rest)) (Err s) e f a b
    entry_refused rest s f b h =
        run_stops answers limit (call_at p parent tok enter ∷ []) (calls_at p parent tok rest) s e f a b
        (subst (λ x. Run (x ∷ []) (Err s) e f a b) same h)

    pub entry_made : (k : Kind) (cs all : List PropChange) → cs ≡ all → (r : Result (Unit {0}) Stop) (m f : E) (b c : ℕ)
        → Run (call ∷ []) (Ok tt) e m a b → Run (calls_at [] 0 tok (map (Change k) cs)) r m f b c
        → Run (calls_at p parent tok (enter ∷ map (Change k) all)) r e f a c
    entry_made k cs all q r m f b c h g =
        run_then answers limit (call_at p parent tok enter ∷ []) (calls_at p parent tok (map (Change k) all)) r e m f a b c
        (subst (λ x. Run (x ∷ []) (Ok tt) e m a b) same h)
        (run_as (calls_at [] 0 tok (map (Change k) all)) (calls_at p parent tok (map (Change k) all)) r m f b c
        (changes_anywhere p parent tok k all)
        (subst (λ l. Run (calls_at [] 0 tok (map (Change k) l)) r m f b c) q g))
