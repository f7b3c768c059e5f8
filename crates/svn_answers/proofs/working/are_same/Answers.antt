use Rattle.std.proofs.Common.{rules, ◌≡◌, ◌∙◌, ◌<◌, length, ℕ, List, [], ◌++◌, take, refl, sym, ap, subst, arith, Bool, true, false, Option}
use Rattle.std.specs.Io.KnownBytes.{Consumes}
use Rattle.std.proofs.lemmas.Result.{IfOk-weaker}
use Rattle.svn_answers.specs.Working.{AreCompared, IsNext}
use Rattle.svn_answers.proofs.Pieces.{came, failed, at_end, ends_compared, others_compared, took}
use Rattle.svn_answers.proofs.working.are_same.Goals.{in-Ok+in_ok-has_next-in-Ok+else-not-branch, in-Err}
use Rattle.svn_answers.proofs.working.are_same.Goals as goal

pub returns-in-Ok-eq0 : goal.returns-in-Ok-eq0
returns-in-Ok-eq0 g c =
    let inv = c.pieces.invariant in
    let none = at_end (g.F.Read.remaining c.pieces.file) (g.F.Read.remaining c.read.new.self) c.read.result c.in-Ok-eq0.field-0 c.read.new.buf
    c.read.ensures.bytes c.in-Ok-eq0.is c.in-Ok-eq0.field-0-test (omega (arith, inv.room, c.read.auto.buf)) in
    IfOk-weaker c.is_at_end.result _ _
    (λ b is. ends_compared (g.F.Read.remaining c.args.file.now) (g.F.Read.remaining c.pieces.file) (g.F.Read.remaining c.read.new.self)
    (g.T.Read.remaining c.args.text.now) (g.T.Read.remaining c.pieces.text) inv.done b inv.file inv.text none.0 none.1 is)
    c.is_at_end.ensures

pub returns-then-not-branch : goal.returns-then-not-branch
returns-then-not-branch g c =
    let inv = c.pieces.invariant in
    let piece : List ℕ = take c.in-Ok.count c.read.new.buf in
    let more = came (g.F.Read.remaining c.pieces.file) (g.F.Read.remaining c.read.new.self) c.read.result c.in-Ok.count c.read.new.buf c.read.ensures.bytes c.in-Ok.is in
    others_compared (g.F.Read.remaining c.args.file.now) (g.F.Read.remaining c.pieces.file) (g.F.Read.remaining c.read.new.self)
    (g.T.Read.remaining c.args.text.now) (g.T.Read.remaining c.pieces.text) (g.T.Read.remaining c.has_next.new.input) inv.done
    piece inv.file inv.text more.0
    (subst (λ (b : Bool). IsNext (g.T.Read.remaining c.pieces.text) (g.T.Read.remaining c.has_next.new.input) piece b) c.if-not-branch.true c.in_ok-has_next-in-Ok.ensures)

pub pieces-preserved : goal.pieces-preserved
pieces-preserved g c =
    let inv = c.pieces.invariant in
    elim c.match-read.branch [
      | in-Ok+in_ok-has_next-in-Ok+else-not-branch w ↦
          let piece : List ℕ = take w.in-Ok.count c.read.new.buf in
          let more = came (g.F.Read.remaining c.pieces.file) (g.F.Read.remaining c.read.new.self) c.read.result w.in-Ok.count c.read.new.buf c.read.ensures.bytes w.in-Ok.is in
          let next : Consumes (g.T.Read.remaining c.pieces.text) (g.T.Read.remaining w.has_next.new.input) piece =
          subst (λ (b : Bool). IsNext (g.T.Read.remaining c.pieces.text) (g.T.Read.remaining w.has_next.new.input) piece b) w.if-not-branch.false w.in_ok-has_next-in-Ok.ensures in
          record {
            done = inv.done ++ piece;
            file = took (g.F.Read.remaining c.args.file.now) (g.F.Read.remaining c.pieces.file) (g.F.Read.remaining c.read.new.self) inv.done piece inv.file more.0;
            text = subst (λ t. Consumes (g.T.Read.remaining c.args.text.now) (g.T.Read.remaining t) (inv.done ++ piece)) (sym w.text-is) (took (g.T.Read.remaining c.args.text.now) (g.T.Read.remaining c.pieces.text) (g.T.Read.remaining w.has_next.new.input) inv.done piece inv.text next);
            room = omega (arith, inv.room, c.read.auto.buf);
            same_room = omega (arith, inv.same_room, c.read.auto.buf, c.match-read.auto.text_piece);
          }
      | in-Err w ↦
          record {
            done = inv.done;
            file = failed (g.F.Read.remaining c.args.file.now) (g.F.Read.remaining c.pieces.file) (g.F.Read.remaining c.read.new.self) c.read.result _ inv.done c.read.new.buf inv.file c.read.ensures.bytes w.in-Err.is;
            text = subst (λ t. Consumes (g.T.Read.remaining c.args.text.now) (g.T.Read.remaining t) inv.done) (sym w.text-is) inv.text;
            room = omega (arith, inv.room, c.read.auto.buf);
            same_room = omega (arith, inv.same_room, c.read.auto.buf, c.match-read.auto.text_piece);
          }
    ]
