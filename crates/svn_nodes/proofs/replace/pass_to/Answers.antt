use Rattle.std.proofs.Common.{sym, subst, ◌∙◌}
use Rattle.svn_types.specs.Names.{Path}
use Rattle.svn_model.specs.declared.base_node.BaseNode.{BaseNode}
use Rattle.law_copy.proofs.NodeLists.{rest_in_order}
use Rattle.svn_nodes.specs.Ahead.{behind_first}
use Rattle.svn_nodes.proofs.Comparing.{HasPassed, passed_step, passed_on, left_behind, none_left, none_yet, one_here, behind_here}
use Rattle.svn_nodes.proofs.replace.pass_to.Goals as goal

pub beside-preserved : goal.beside-preserved
beside-preserved c =
    let e : Path × BaseNode = (c.in-Some.next.now, c.in-Some.field-0-1.now) in
    passed_on c.args.path.now c.args.beside.now e c.advance.new.self
    (passed_step c.args.path.now c.args.beside.now c.beside.beside e _ c.advance.new.self c.beside.invariant c.in-Some.ensures
    c.advance.ensures) (sym c.cmp.ensures ∙ c.in-Less.is)

pub returns-in-Equal-clause-ordered : goal.returns-in-Equal-clause-ordered
returns-in-Equal-clause-ordered c = λ order.
    let e : Path × BaseNode = (c.in-Some.next.now, c.in-Some.field-0-1.now) in
    rest_in_order e c.advance-in-Equal.new.self
    ((passed_step c.args.path.now c.args.beside.now c.beside.beside e _ c.advance-in-Equal.new.self c.beside.invariant c.in-Some.ensures
    c.advance-in-Equal.ensures).0 order)

pub returns-in-Equal-clause-found : goal.returns-in-Equal-clause-found
returns-in-Equal-clause-found c = λ order.
    let e : Path × BaseNode = (c.in-Some.next.now, c.in-Some.field-0-1.now) in
    one_here c.args.path.now c.args.beside.now e c.advance-in-Equal.new.self
    (passed_step c.args.path.now c.args.beside.now c.beside.beside e _ c.advance-in-Equal.new.self c.beside.invariant c.in-Some.ensures
    c.advance-in-Equal.ensures) (sym c.cmp.ensures ∙ c.in-Equal.is)

pub returns-in-Equal-clause-behind : goal.returns-in-Equal-clause-behind
returns-in-Equal-clause-behind c =
    let e : Path × BaseNode = (c.in-Some.next.now, c.in-Some.field-0-1.now) in
    behind_here c.args.path.now c.args.beside.now e c.advance-in-Equal.new.self
    (passed_step c.args.path.now c.args.beside.now c.beside.beside e _ c.advance-in-Equal.new.self c.beside.invariant c.in-Some.ensures
    c.advance-in-Equal.ensures) (sym c.cmp.ensures ∙ c.in-Equal.is)

pub returns-in-Greater-clause-found : goal.returns-in-Greater-clause-found
returns-in-Greater-clause-found c =
    let e : Path × BaseNode = (c.in-Some.next.now, c.in-Some.field-0-1.now) in
    none_yet c.args.path.now c.args.beside.now e (behind_first c.beside.beside)
    (subst (HasPassed c.args.path.now c.args.beside.now) c.in-Some.ensures c.beside.invariant) (sym c.cmp.ensures ∙ c.in-Greater.is)

pub returns-in-Greater-clause-behind : goal.returns-in-Greater-clause-behind
returns-in-Greater-clause-behind c = left_behind c.args.path.now c.args.beside.now c.beside.beside c.beside.invariant

pub returns-clause-found : goal.returns-clause-found
returns-clause-found c = λ order.
    none_left c.args.path.now c.args.beside.now
    (subst (HasPassed c.args.path.now c.args.beside.now) c.in_default.ensures c.beside.invariant)

pub returns-clause-behind : goal.returns-clause-behind
returns-clause-behind c = left_behind c.args.path.now c.args.beside.now c.beside.beside c.beside.invariant
