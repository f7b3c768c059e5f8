use Rattle.std.proofs.Common.{rules, ◌≡◌, ℕ, List, ◌+◌, false, [], ◌∷◌, ◌++◌, append-nil, refl, sym, ◌∙◌, ap, subst, arith}
use Rattle.std.proofs.Common.{None, Ok, Err, OnOk}
use Rattle.std.specs.List.{AllByRecursion}
use Rattle.svn_lists.proofs.Parts.{empty_from_length}
use Rattle.svn_types.specs.Names.{Path}
use Rattle.svn_types.specs.Paths.{child}
use Rattle.svn_model.specs.declared.stop.Stop.TheVariants.{Memory}
use Rattle.svn_model.specs.Follow.{target_node}
use Rattle.svn_model.specs.Tree.{names_below, is_entered}
use Rattle.svn_model.specs.TreeCalls.{in_turn, sizes, visit_calls, visit_size}
use Rattle.svn_drive.specs.declared.child_names.Below.{Below}
use Rattle.svn_drive.specs.Children.{IsChild, names_of}
use Rattle.svn_drive.specs.Waiting.{waiting, visit_late, entered_late}
use Rattle.svn_drive.specs.Walking.{IsEntered, request_of, entered_size, late_texts_of, limit_of}
use Rattle.svn_drive.proofs.Waits.{waits_on, late-not_entered, late-not_there, late-entered}
use Rattle.svn_drive.proofs.Visits.{size-not_entered, size-not_there, size-entered}
use Rattle.svn_drive.proofs.VisitRuns.{visit_stopped, visit_left, visit_absent, visit_whole, name_stopped, names_memory}
use Rattle.svn_drive.proofs.VisitRuns.{name_done, visit_at, entered_stopped_as, entered_file_as, entered_below_as, entered_directory_as}
use Rattle.svn_drive.proofs.walk.Walk.+visit.Goals as goal

-- ---- a place

pub visit-returns-in_err-delete_gone-clause-runs : goal.visit-returns-in_err-delete_gone-clause-runs
visit-returns-in_err-delete_gone-clause-runs g t c =
    let same : c.from_residual.result ≡ Err c.in_err-delete_gone.field-0.0 = search rules in
    rw same
    (visit_stopped g.E.Editor.answers (limit_of c.args.self.now) (request_of c.args.self.now) (late_texts_of c.args.self.now) c.args.place.now.here.path
    c.args.place.now.parent c.args.progress.now.next c.requires.short
    c.args.editor.now c.args.progress.now.made c.in_err-delete_gone.field-0.0 c.delete_gone.new.editor c.delete_gone.new.progress.made
    c.in_err-delete_gone.ensures.runs)

pub visit-returns-then-not-is_entered-clause-runs : goal.visit-returns-then-not-is_entered-clause-runs
visit-returns-then-not-is_entered-clause-runs g t c =
    let no : is_entered (request_of c.args.self.now) c.args.place.now.here.path ≡ false = sym c.if-not-is_entered.ensures in
    visit_left g.E.Editor.answers (limit_of c.args.self.now) (request_of c.args.self.now) (late_texts_of c.args.self.now) c.args.place.now.here.path
    c.args.place.now.parent c.args.progress.now.next c.requires.short
    c.args.editor.now c.args.progress.now.made c.delete_gone.new.editor c.delete_gone.new.progress.made no c.in_ok-delete_gone.ensures.runs

pub visit-returns-then-not-is_entered-clause-tokens : goal.visit-returns-then-not-is_entered-clause-tokens
visit-returns-then-not-is_entered-clause-tokens g t c =
    let no : is_entered (request_of c.args.self.now) c.args.place.now.here.path ≡ false = sym c.if-not-is_entered.ensures in
    let none = size-not_entered (request_of c.args.self.now) c.args.place.now.here.path c.requires.short no in
    omega (arith, c.in_ok-delete_gone.ensures.tokens, none)

pub visit-returns-in_default-clause-runs : goal.visit-returns-in_default-clause-runs
visit-returns-in_default-clause-runs g t c =
    let none : target_node (request_of c.args.self.now) c.args.place.now.here.path ≡ None = sym c.requires.at.target ∙ c.in_default.is in
    visit_absent g.E.Editor.answers (limit_of c.args.self.now) (request_of c.args.self.now) (late_texts_of c.args.self.now) c.args.place.now.here.path
    c.args.place.now.parent c.args.progress.now.next c.requires.short
    c.args.editor.now c.args.progress.now.made c.delete_gone.new.editor c.delete_gone.new.progress.made none
    c.in_ok-delete_gone.ensures.runs

pub visit-returns-in_default-clause-tokens : goal.visit-returns-in_default-clause-tokens
visit-returns-in_default-clause-tokens g t c =
    let none : target_node (request_of c.args.self.now) c.args.place.now.here.path ≡ None = sym c.requires.at.target ∙ c.in_default.is in
    let nothing = size-not_there (request_of c.args.self.now) c.args.place.now.here.path c.requires.short none in
    omega (arith, c.in_ok-delete_gone.ensures.tokens, nothing)

pub visit-returns-clause-runs : goal.visit-returns-clause-runs
visit-returns-clause-runs g t c =
    let i : IsEntered (request_of c.args.self.now) c.args.place.now.here.path c.in-Some.node c.kind_of.result =
    record { entered = search rules; target = search rules; kind = search rules } in
    visit_whole g.E.Editor.answers (limit_of c.args.self.now) (request_of c.args.self.now) (late_texts_of c.args.self.now) c.args.place.now.here.path
    c.args.place.now.parent c.args.progress.now.next c.requires.short
    c.args.editor.now c.args.progress.now.made c.in-Some.node c.kind_of.result i c.visit_entered.result c.delete_gone.new.editor
    c.visit_entered.new.editor
    c.delete_gone.new.progress.made c.visit_entered.new.progress.made c.delete_gone.new.progress.next c.in_ok-delete_gone.ensures.tokens
    c.in_ok-delete_gone.ensures.runs c.visit_entered.ensures.runs

pub visit-returns-clause-tokens : goal.visit-returns-clause-tokens
visit-returns-clause-tokens g t c =
    let i : IsEntered (request_of c.args.self.now) c.args.place.now.here.path c.in-Some.node c.kind_of.result =
    record { entered = search rules; target = search rules; kind = search rules } in
    let size = size-entered (request_of c.args.self.now) c.args.place.now.here.path c.in-Some.node c.kind_of.result c.requires.short i in
    let before : c.delete_gone.new.progress.next ≡ c.args.progress.now.next = c.in_ok-delete_gone.ensures.tokens in
    let d = request_of c.args.self.now in
    let p = c.args.place.now.here.path in
    let same : c.delete_gone.new.progress.next + entered_size d p c.kind_of.result ≡ c.args.progress.now.next + visit_size d p =
    omega (arith, size, before) in
    subst (λ (n : ℕ). OnOk c.visit_entered.result (c.visit_entered.new.progress.next ≡ n)) same c.visit_entered.ensures.tokens

-- ---- what waits of it

pub visit-returns-then-not-is_entered-clause-waits : goal.visit-returns-then-not-is_entered-clause-waits
visit-returns-then-not-is_entered-clause-waits g t c =
    let none =
    late-not_entered (request_of c.args.self.now) (late_texts_of c.args.self.now) c.args.place.now.here.path c.args.place.now.parent
    c.args.progress.now.next c.requires.short (sym c.if-not-is_entered.ensures) in
    sym (ap (λ l. waiting c.args.self.now.repo.now c.args.later.now.items ++ l) none
    ∙ append-nil (waiting c.args.self.now.repo.now c.args.later.now.items))

pub visit-returns-in_default-clause-waits : goal.visit-returns-in_default-clause-waits
visit-returns-in_default-clause-waits g t c =
    let none =
    late-not_there (request_of c.args.self.now) (late_texts_of c.args.self.now) c.args.place.now.here.path c.args.place.now.parent
    c.args.progress.now.next c.requires.short (sym c.requires.at.target ∙ c.in_default.is) in
    sym (ap (λ l. waiting c.args.self.now.repo.now c.args.later.now.items ++ l) none
    ∙ append-nil (waiting c.args.self.now.repo.now c.args.later.now.items))

pub visit-returns-clause-waits : goal.visit-returns-clause-waits
visit-returns-clause-waits g t c =
    let i : IsEntered (request_of c.args.self.now) c.args.place.now.here.path c.in-Some.node c.kind_of.result =
    record { entered = search rules; target = search rules; kind = search rules } in
    let all =
    late-entered (request_of c.args.self.now) (late_texts_of c.args.self.now) c.args.place.now.here.path c.args.place.now.parent
    c.args.progress.now.next c.in-Some.node c.kind_of.result c.requires.short i in
    let before : c.delete_gone.new.progress.next ≡ c.args.progress.now.next = c.in_ok-delete_gone.ensures.tokens in
    let same =
    ap
    (λ n. entered_late (request_of c.args.self.now) (late_texts_of c.args.self.now) c.args.place.now.here.path c.args.place.now.parent n
    c.in-Some.node c.kind_of.result)
    before
    ∙ sym all in
    subst
    (λ l. OnOk c.visit_entered.result (waiting c.args.self.now.repo.now c.visit_entered.new.later.items
    ≡ waiting c.args.self.now.repo.now c.args.later.now.items ++ l))
    same c.visit_entered.ensures.waits

-- ---- the names below

pub visit_below-child-requires-clause-below : goal.visit_below-child-requires-clause-below
visit_below-child-requires-clause-below g t c =
    let items : c.loop-below.below-iterator.rest.items ≡ c.in-Some.below ∷ c.next.new.self.rest.items = search rules in
    let inv = rw items at c.loop-below.invariant in
    inv.6.0.under

pub visit_below-child-requires-clause-short : goal.visit_below-child-requires-clause-short
visit_below-child-requires-clause-short g t c =
    let items : c.loop-below.below-iterator.rest.items ≡ c.in-Some.below ∷ c.next.new.self.rest.items = search rules in
    let inv = rw items at c.loop-below.invariant in
    inv.6.0.room

pub visit_below-child-requires-clause-known : goal.visit_below-child-requires-clause-known
visit_below-child-requires-clause-known g t c = c.loop-below.invariant.7

pub visit_below-loop-below-init : goal.visit_below-loop-below-init
visit_below-loop-below-init g t c =
    let all : c.into_iter-below-iterator.result.rest.items ≡ c.in_ok-children.children.items = search rules in
    let same = c.in_ok-children.ensures.same in (
      [],
      refl,
      (omega arith, λ h. h),
      ap
          (λ (l : List Below). in_turn (λ q n. visit_calls (request_of c.args.self.now) (late_texts_of c.args.self.now) q c.args.token n)
          (visit_size (request_of c.args.self.now)) c.args.place.now.here.path c.args.progress.now.next (names_of l))
          all
          ∙ sym (same.calls (late_texts_of c.args.self.now) c.args.token c.args.progress.now.next),
      ap
          (λ (l : List Below). c.args.progress.now.next
          + sizes (visit_size (request_of c.args.self.now)) c.args.place.now.here.path (names_of l))
          all
          ∙ ap (λ n. c.args.progress.now.next + n) (sym same.tokens),
      ap
          (λ (l : List Below). waiting c.args.self.now.repo.now c.args.later.now.items
          ++ in_turn (λ q n. visit_late (request_of c.args.self.now) (late_texts_of c.args.self.now) q c.args.token n)
          (visit_size (request_of c.args.self.now)) c.args.place.now.here.path c.args.progress.now.next (names_of l))
          all
          ∙ ap (λ l. waiting c.args.self.now.repo.now c.args.later.now.items ++ l)
          (sym (same.waits (late_texts_of c.args.self.now) c.args.token c.args.progress.now.next)),
      subst (AllByRecursion (IsChild (request_of c.args.self.now) c.args.place.now)) (sym all) c.in_ok-children.ensures.under,
      tt,
    )

pub visit_below-returns-in_err-child-clause-runs : goal.visit_below-returns-in_err-child-clause-runs
visit_below-returns-in_err-child-clause-runs g t c =
    let same : c.from_residual-in_err-child.result ≡ Err Memory = search rules in
    let inv = c.loop-below.invariant in
    rw same
    (names_memory g.E.Editor.answers (limit_of c.args.self.now)
    (λ q n. visit_calls (request_of c.args.self.now) (late_texts_of c.args.self.now) q c.args.token n) (visit_size (request_of c.args.self.now))
    c.args.place.now.here.path
    c.args.progress.now.next (names_below (request_of c.args.self.now) c.args.place.now.here.path) c.args.editor.now
    c.args.progress.now.made
    c.loop-below.progress.next (names_of c.loop-below.below-iterator.rest.items) c.loop-below.editor c.loop-below.progress.made
    (inv.0, inv.1, inv.2, inv.3, inv.4))

pub visit_below-returns-in_err-visit-clause-runs : goal.visit_below-returns-in_err-visit-clause-runs
visit_below-returns-in_err-visit-clause-runs g t c =
    let same : c.from_residual-in_err-visit.result ≡ Err c.in_err-visit.field-0.0 = search rules in
    let items : c.loop-below.below-iterator.rest.items ≡ c.in-Some.below ∷ c.next.new.self.rest.items = search rules in
    let inv = rw items at c.loop-below.invariant in
    rw same
    (name_stopped g.E.Editor.answers (limit_of c.args.self.now)
    (λ q n. visit_calls (request_of c.args.self.now) (late_texts_of c.args.self.now) q c.args.token n) (visit_size (request_of c.args.self.now))
    c.args.place.now.here.path
    c.args.progress.now.next (names_below (request_of c.args.self.now) c.args.place.now.here.path) c.args.editor.now
    c.args.progress.now.made
    c.loop-below.progress.next c.in-Some.below.name.now (names_of c.next.new.self.rest.items) c.loop-below.editor c.visit.new.editor
    c.loop-below.progress.made c.visit.new.progress.made c.in_err-visit.field-0.0 (inv.0, inv.1, inv.2, inv.3, inv.4)
    (visit_at g.E.Editor.answers (limit_of c.args.self.now) (request_of c.args.self.now) (late_texts_of c.args.self.now) c.in_ok-child.child.here.path
    (child c.args.place.now.here.path c.in-Some.below.name.now) c.in_ok-child.child.parent c.args.token
    c.loop-below.progress.next (Err c.in_err-visit.field-0.0) c.loop-below.editor c.visit.new.editor c.loop-below.progress.made
    c.visit.new.progress.made
    c.in_ok-child.ensures.path.0 c.in_ok-child.ensures.parent c.in_err-visit.ensures.runs))

pub visit_below-loop-below-preserved : goal.visit_below-loop-below-preserved
visit_below-loop-below-preserved g t c =
    let items : c.loop-below.below-iterator.rest.items ≡ c.in-Some.below ∷ c.next.new.self.rest.items = search rules in
    let inv = rw items at c.loop-below.invariant in
    let d = request_of c.args.self.now in
    let q : Path = child c.args.place.now.here.path c.in-Some.below.name.now in
    let tokens : c.visit.new.progress.next ≡ c.loop-below.progress.next + visit_size d q =
    c.in_ok-visit.ensures.tokens ∙ ap (λ r. c.loop-below.progress.next + visit_size d r) c.in_ok-child.ensures.path.0 in
    let r =
    name_done g.E.Editor.answers (limit_of c.args.self.now)
    (λ q n. visit_calls (request_of c.args.self.now) (late_texts_of c.args.self.now) q c.args.token n) (visit_size (request_of c.args.self.now))
    c.args.place.now.here.path
    c.args.progress.now.next (names_below (request_of c.args.self.now) c.args.place.now.here.path) c.args.editor.now
    c.args.progress.now.made
    c.loop-below.progress.next c.visit.new.progress.next c.in-Some.below.name.now (names_of c.next.new.self.rest.items) c.loop-below.editor
    c.visit.new.editor c.loop-below.progress.made c.visit.new.progress.made (inv.0, inv.1, inv.2, inv.3, inv.4)
    (visit_at g.E.Editor.answers (limit_of c.args.self.now) (request_of c.args.self.now) (late_texts_of c.args.self.now) c.in_ok-child.child.here.path
    (child c.args.place.now.here.path c.in-Some.below.name.now) c.in_ok-child.child.parent c.args.token
    c.loop-below.progress.next (Ok tt) c.loop-below.editor c.visit.new.editor c.loop-below.progress.made c.visit.new.progress.made
    c.in_ok-child.ensures.path.0 c.in_ok-child.ensures.parent c.in_ok-visit.ensures.runs)
    tokens in (
      r.0,
      r.1,
      r.2,
      r.3,
      r.4,
      waits_on (λ q n. visit_late (request_of c.args.self.now) (late_texts_of c.args.self.now) q c.args.token n)
          (visit_size (request_of c.args.self.now)) c.args.place.now.here.path
          c.loop-below.progress.next c.visit.new.progress.next c.in-Some.below.name.now (names_of c.next.new.self.rest.items)
          (waiting c.args.self.now.repo.now c.loop-below.later.items) (waiting c.args.self.now.repo.now c.visit.new.later.items) _ inv.5
          (c.in_ok-visit.ensures.waits
          ∙ ap
          (λ q. waiting c.args.self.now.repo.now c.loop-below.later.items
          ++ visit_late (request_of c.args.self.now) (late_texts_of c.args.self.now) q c.in_ok-child.child.parent c.loop-below.progress.next)
          c.in_ok-child.ensures.path.0
          ∙ ap
          (λ x. waiting c.args.self.now.repo.now c.loop-below.later.items
          ++ visit_late (request_of c.args.self.now) (late_texts_of c.args.self.now)
          (child c.args.place.now.here.path c.in-Some.below.name.now) x c.loop-below.progress.next)
          c.in_ok-child.ensures.parent)
          tokens,
      inv.6.1,
      c.in_ok-child.ensures.known,
    )

pub visit_below-returns-clause-waits : goal.visit_below-returns-clause-waits
visit_below-returns-clause-waits g t c =
    let none : c.loop-below.below-iterator.rest.items ≡ [] =
    empty_from_length c.loop-below.below-iterator.rest.items c.loop-below.below-iterator.rest.len c.in-None.ensures.steps.0
    c.loop-below.below-iterator.rest.ok.0 in
    let inv = rw none at c.loop-below.invariant in
    sym (append-nil (waiting c.args.self.now.repo.now c.loop-below.later.items)) ∙ inv.5

-- ---- what is entered

pub visit_entered-returns-in_err-enter-clause-runs : goal.visit_entered-returns-in_err-enter-clause-runs
visit_entered-returns-in_err-enter-clause-runs g t c =
    let same : c.from_residual.result ≡ Err c.in_err-enter.field-0.0 = search rules in
    rw same
    (entered_stopped_as g.E.Editor.answers (limit_of c.args.self.now) (request_of c.args.self.now) (late_texts_of c.args.self.now)
    c.args.place.now.here.path c.args.place.now.parent c.args.progress.now.next c.args.opened.now.node
    c.args.editor.now c.args.progress.now.made c.args.opened.now.token c.requires.token c.args.opened.now.kind c.in_err-enter.field-0.0
    c.enter.new.editor c.enter.new.progress.made c.in_err-enter.ensures.runs)

pub visit_entered-returns-in_err-visit_below-in-Directory-clause-runs :
    goal.visit_entered-returns-in_err-visit_below-in-Directory-clause-runs
visit_entered-returns-in_err-visit_below-in-Directory-clause-runs g t c =
    let same : c.from_residual-in_err-visit_below-in-Directory.result ≡ Err c.in_err-visit_below-in-Directory.field-0.0 = search rules in
    rw same
    (entered_below_as g.E.Editor.answers (limit_of c.args.self.now) (request_of c.args.self.now) (late_texts_of c.args.self.now) c.args.place.now.here.path
    c.args.place.now.parent c.args.progress.now.next c.args.opened.now.node
    c.args.editor.now c.args.progress.now.made c.args.opened.now.token c.requires.token c.args.opened.now.kind c.in-Directory.is
    c.in_err-visit_below-in-Directory.field-0.0
    c.enter.new.progress.next c.enter.new.editor c.visit_below.new.editor c.enter.new.progress.made c.visit_below.new.progress.made
    c.in_ok-enter.ensures.tokens c.in_ok-enter.ensures.runs
    c.in_err-visit_below-in-Directory.ensures.runs)

pub visit_entered-returns-in-File-clause-runs : goal.visit_entered-returns-in-File-clause-runs
visit_entered-returns-in-File-clause-runs g t c =
    entered_file_as g.E.Editor.answers (limit_of c.args.self.now) (request_of c.args.self.now) (late_texts_of c.args.self.now) c.args.place.now.here.path
    c.args.place.now.parent c.args.progress.now.next c.args.opened.now.node
    c.args.editor.now c.args.progress.now.made c.args.opened.now.token c.requires.token c.args.opened.now.kind c.in-File.is
    c.end_file.result
    c.enter.new.editor c.end_file.new.editor c.enter.new.progress.made c.end_file.new.progress.made c.in_ok-enter.ensures.runs
    c.end_file.ensures.runs

pub visit_entered-returns-in_ok-visit_below-in-Directory-clause-runs : goal.visit_entered-returns-in_ok-visit_below-in-Directory-clause-runs
visit_entered-returns-in_ok-visit_below-in-Directory-clause-runs g t c =
    entered_directory_as g.E.Editor.answers (limit_of c.args.self.now) (request_of c.args.self.now) (late_texts_of c.args.self.now)
    c.args.place.now.here.path c.args.place.now.parent c.args.progress.now.next c.args.opened.now.node
    c.args.editor.now c.args.progress.now.made c.args.opened.now.token c.requires.token c.args.opened.now.kind c.in-Directory.is
    c.make.result
    c.enter.new.progress.next c.enter.new.editor c.visit_below.new.editor c.make.new.editor c.enter.new.progress.made
    c.visit_below.new.progress.made c.make.new.progress.made
    c.in_ok-enter.ensures.tokens c.in_ok-enter.ensures.runs c.in_ok-visit_below-in-Directory.ensures.runs c.make.ensures.runs
