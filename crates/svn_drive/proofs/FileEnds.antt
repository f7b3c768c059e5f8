-- How a file ends: with a text and its close, or the close alone.
use Rattle.std.proofs.Common.{◌≡◌, ℕ, Bool, true, false, ◌&&◌, ◌||◌, not, List, [], ◌∷◌, ◌++◌, refl, sym, ◌∙◌, ap}
use Rattle.std.specs.Prelude.{Option, Some, None, cond, map, bytes_eq}
use Rattle.std.specs.List.{list_any}
use Rattle.std.proofs.lemmas.List.Folds.{list_any-append}
use Rattle.md5.specs.Md5.{md5}
use Rattle.svn_types.specs.Names.{Path}
use Rattle.svn_types.specs.Props.{PropChange, changes_between}
use Rattle.svn_types.specs.declared.kind.Kind.{Kind}
use Rattle.svn_types.specs.declared.kind.Kind.TheVariants.{File}
use Rattle.svn_repo.specs.Readings.{kind_of, text_of, props_of}
use Rattle.svn_editor.specs.Steps.{Action, Delete, Open, Add, Change, Text, Close}
use Rattle.svn_drive.specs.declared.visit.Texted.{Texted}
use Rattle.svn_drive.specs.declared.walk.Walk.{Walk}
use Rattle.svn_model.specs.Sources.{governing_revision}
use Rattle.svn_model.specs.Follow.{DriveInput, follow}
use Rattle.svn_model.specs.Steps.{has_text, is_text, is_gone, is_touched, gone_actions}
use Rattle.svn_model.specs.Tree.{old_props, entry_actions, file_end, is_late, first_of, last_of, late_of, first_at, last_at, late_at}
use Rattle.svn_drive.specs.Walking.{IsEntered, IsTold, request_of, old_text, text_action, close_action, has_text_of, text_end, late_texts_of}
use Rattle.std.specs.Prelude.{Result, Ok, Err}
use Rattle.svn_editor.specs.declared.call.Call.{Call}
use Rattle.svn_editor.specs.declared.fault.EditFault.{EditFault}
use Rattle.svn_model.specs.declared.stop.Stop.{Stop}
use Rattle.svn_model.specs.TreeCalls.{call_at, calls_at}
use Rattle.law_drive.proofs.TreePaths.{three_parts}
use Rattle.svn_drive.proofs.RunLemmas.{run_then, run_stops}
use Rattle.svn_drive.proofs.VisitRuns.{Run, run_as}

no_text_in_changes : (k : Kind) (cs : List PropChange) → list_any is_text (map (Change k) cs) ≡ false
no_text_in_changes k [] = refl
no_text_in_changes k (c ∷ cs) = no_text_in_changes k cs

no_text_in_entry : (d : DriveInput) (p : Path) (n : ℕ) (k : Kind) → list_any is_text (entry_actions d p n k) ≡ false
no_text_in_entry d p n k = by (is_touched d p) ∙ no_text_in_changes k (changes_between (old_props d p) (props_of d.history n))
  where
    by : (t : Bool)
        → (is_text (cond t (Open k (governing_revision (follow d p).here)) (Add k))
        || list_any is_text (map (Change k) (changes_between (old_props d p) (props_of d.history n))))
        ≡ list_any is_text (map (Change k) (changes_between (old_props d p) (props_of d.history n)))
    by true = refl
    by false = refl

no_text_in_gone : (d : DriveInput) (p : Path) → list_any is_text (gone_actions d p) ≡ false
no_text_in_gone d p = by (is_gone d p)
  where
    by : (g : Bool) → list_any is_text (cond g (Delete (governing_revision (follow d p).here) ∷ []) []) ≡ false
    by true = refl
    by false = refl

-- a file that is entered has a text where its end has one
pub text_at_end : (d : DriveInput) (p : Path) (n : ℕ) → IsEntered d p n File → has_text d p ≡ list_any is_text (file_end d p n)
text_at_end d p n e =
    sym (ap (list_any is_text) (three_parts d false p))
    ∙ ap (λ o. list_any is_text ((gone_actions d p ++ first_at d false p o) ++ (last_at d p o ++ late_at d false p o))) e.target
    ∙ ap
    (λ b. list_any is_text ((gone_actions d p ++ cond b (first_of d false p n (kind_of d.history n)) [])
    ++ (cond b (last_of (kind_of d.history n)) [] ++ cond b (late_of d false p n (kind_of d.history n)) [])))
    e.entered
    ∙ ap (λ k. list_any is_text ((gone_actions d p ++ first_of d false p n k) ++ (last_of k ++ late_of d false p n k))) e.kind
    ∙ list_any-append is_text (gone_actions d p ++ (entry_actions d p n File ++ file_end d p n)) []
    ∙ or_none (list_any is_text (gone_actions d p ++ (entry_actions d p n File ++ file_end d p n)))
    ∙ list_any-append is_text (gone_actions d p) (entry_actions d p n File ++ file_end d p n)
    ∙ ap (λ b. b || list_any is_text (entry_actions d p n File ++ file_end d p n)) (no_text_in_gone d p)
    ∙ list_any-append is_text (entry_actions d p n File) (file_end d p n)
    ∙ ap (λ b. b || list_any is_text (file_end d p n)) (no_text_in_entry d p n File)
  where
    or_none : (b : Bool) → (b || false) ≡ b
    or_none true = refl
    or_none false = refl

module _ (w : Walk) (p : Path) (n : ℕ) (file : Texted) (e : IsEntered (request_of w) p n File) (told : IsTold w p n file) where
  abbrev d : DriveInput
  d = request_of w

  -- a file's end, by what is reported
  abbrev end_by : Bool → List ℕ → ℕ → List Action
  end_by o old m =
      cond o (cond (bytes_eq old (text_of w.repo.now m)) [] (Text (Some (md5 old)) (text_of w.repo.now m) ∷ []))
      (Text None (text_of w.repo.now m) ∷ [])
      ++ (Close File (Some (md5 (text_of w.repo.now m))) ∷ [])

  pub ends_as : file_end d p n ≡ text_end w.repo.now file
  ends_as =
      sym (λ i. end_by (told.opened i) (told.old i) (told.node i))
      ∙ by file.is_opened (bytes_eq (old_text w.repo.now file) (text_of w.repo.now file.node))
    where
      new : List ℕ
      new = text_of w.repo.now file.node

      sum : List ℕ
      sum = md5 (old_text w.repo.now file)

      close : List Action
      close = Close File (Some (md5 new)) ∷ []

      by : (o b : Bool)
          → cond o (cond b [] (Text (Some sum) new ∷ [])) (Text None new ∷ []) ++ close
          ≡ cond (not o || not b) (Text (cond o (Some sum) None) new ∷ close) close
      by true true = refl
      by true false = refl
      by false b = refl

  pub has_text_as : has_text d p ≡ has_text_of w.repo.now file
  has_text_as = text_at_end d p n e ∙ ap (list_any is_text) ends_as ∙ by (has_text_of w.repo.now file)
    where
      by : (b : Bool)
          → list_any is_text (cond b (text_action w.repo.now file ∷ close_action w.repo.now file ∷ []) (close_action w.repo.now file ∷ []))
          ≡ b
      by true = refl
      by false = refl

  pub late_as : is_late d (late_texts_of w) p ≡ (late_texts_of w && has_text_of w.repo.now file)
  late_as = ap (λ b. late_texts_of w && b) has_text_as

  module _ {E : Type 0} (answers : E → Call → Result (Unit {0}) EditFault → E → Type 0) (limit : Option ℕ) (parent tok : ℕ)
      (tk : file.token ≡ tok) where
    -- the calls that end the file, and those of its text and of its close
    abbrev pub ending : List Call
    ending = calls_at p parent tok (cond (is_late d (late_texts_of w) p) [] (file_end d p n))

    abbrev pub texting : List Call
    texting = call_at [] 0 file.token (text_action w.repo.now file) ∷ []

    abbrev pub closing : List Call
    closing = call_at [] 0 file.token (close_action w.repo.now file) ∷ []

    -- with or without a text, late or not
    abbrev ending_by : Bool → Bool → ℕ → List Call
    ending_by l b t =
        calls_at p parent t (cond (l && b) []
        (cond b (text_action w.repo.now file ∷ close_action w.repo.now file ∷ []) (close_action w.repo.now file ∷ [])))

    ending_as : (l b : Bool) → late_texts_of w ≡ l → has_text_of w.repo.now file ≡ b → ending ≡ ending_by l b file.token
    ending_as l b q r =
        (λ i. calls_at p parent (tk_back i) (cond (late_as i) [] (ends_as i)))
        ∙ (λ i. ending_by (q i) (r i) file.token)
      where
        tk_back : tok ≡ file.token
        tk_back = sym tk

    none_and : (l : Bool) → (l && false) ≡ false
    none_and true = refl
    none_and false = refl

    pub end_closed : (r : Result (Unit {0}) Stop) (e f : E) (a b : ℕ) → has_text_of w.repo.now file ≡ false
        → Run answers limit closing r e f a b → Run answers limit ending r e f a b
    end_closed r e f a b q h =
        run_as answers limit closing ending r e f a b
        (ending_as (late_texts_of w) false refl q
        ∙ ap (λ x. calls_at p parent file.token (cond x [] (close_action w.repo.now file ∷ []))) (none_and (late_texts_of w)))
        h

    pub end_waits : (r : Result (Unit {0}) Stop) (e f : E) (a b : ℕ) → late_texts_of w ≡ true → has_text_of w.repo.now file ≡ true
        → Run answers limit [] r e f a b → Run answers limit ending r e f a b
    end_waits r e f a b l q h = run_as answers limit [] ending r e f a b (ending_as true true l q) h

    pub end_stopped : (s : Stop) (e f : E) (a b : ℕ) → late_texts_of w ≡ false → has_text_of w.repo.now file ≡ true
        → Run answers limit texting (Err s) e f a b → Run answers limit ending (Err s) e f a b
    end_stopped s e f a b l q h =
        run_as answers limit (texting ++ closing) ending (Err s) e f a b (ending_as false true l q)
        (run_stops answers limit texting closing s e f a b h)

    pub end_both : (r : Result (Unit {0}) Stop) (e m f : E) (a b c : ℕ) → late_texts_of w ≡ false → has_text_of w.repo.now file ≡ true
        → Run answers limit texting (Ok tt) e m a b → Run answers limit closing r m f b c → Run answers limit ending r e f a c
    end_both r e m f a b c l q h k =
        run_as answers limit (texting ++ closing) ending r e f a c (ending_as false true l q)
        (run_then answers limit texting closing r e m f a b c h k)
