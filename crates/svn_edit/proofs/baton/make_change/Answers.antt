use Rattle.std.proofs.Common.{sym, ◌∙◌}
use Rattle.svn_edit.proofs.Saying.{after_set, after_remove, after_text, taken, passed, set_done, remove_done}
use Rattle.svn_edit.proofs.baton.make_change.Goals as goal

pub returns-in_ok-insert-in-Set : goal.returns-in_ok-insert-in-Set
returns-in_ok-insert-in-Set c = λ before said notes s.
    let old = c.args.strings.now in
    set_done before c.args.props.now c.insert.new.self said notes old (after_set before c.args.props.now said c.args.note notes old s
    c.in-Set.is) c.in_ok-name-in-Set.name c.in_ok-value-in-Set.value c.next.new.self c.next-in-Set.new.self
    (taken c.next.result old c.next.new.self c.in_ok-name-in-Set.name c.next.ensures.steps c.in_ok-name-in-Set.ensures)
    (taken c.next-in-Set.result c.next.new.self c.next-in-Set.new.self c.in_ok-value-in-Set.value c.next-in-Set.ensures.steps
    c.in_ok-value-in-Set.ensures)
    c.in_ok-insert-in-Set.ensures.ok

pub returns-in_ok-name-in-Remove : goal.returns-in_ok-name-in-Remove
returns-in_ok-name-in-Remove c = λ before said notes s.
    let old = c.args.strings.now in
    remove_done before c.args.props.now c.remove.new.self said notes old (after_remove before c.args.props.now said c.args.note notes old s
    c.in-Remove.is) c.in_ok-name-in-Remove.name c.next-in-Remove.new.self
    (taken c.next-in-Remove.result old c.next-in-Remove.new.self c.in_ok-name-in-Remove.name c.next-in-Remove.ensures.steps
    c.in_ok-name-in-Remove.ensures)
    c.remove.ensures

pub returns-in-Text : goal.returns-in-Text
returns-in-Text c = λ before said notes s.
    let old = c.args.strings.now in
    let a = after_text before c.args.props.now said c.args.note notes old s c.in-Text.is in
    record {
      left = a.still.left;
      notes_are = a.still.notes_are;
      strings_are = sym (passed c.next-text.result old c.next-text.new.self a.text a.rest c.next-text.ensures.steps a.split)
          ∙ a.still.strings_are;
      props_are = a.still.props_are;
    }
