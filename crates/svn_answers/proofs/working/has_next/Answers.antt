use Rattle.std.proofs.Common.{rules, ◌≡◌, ◌∙◌, ◌≤◌, length, ℕ, ◌+◌, List, [], ◌++◌, take, drop, refl, sym, ap, subst, arith, true, false}
use Rattle.std.specs.Prelude.{bytes_eq}
use Rattle.std.proofs.lemmas.List.{length-append, length-take}
use Rattle.std.specs.Io.KnownBytes.{Consumes}
use Rattle.svn_answers.proofs.Pieces.{came, failed, others_came, take_within, wanted_came, took}
use Rattle.svn_answers.proofs.working.has_next.Goals.{in-Ok+in-Some, in-Err}
use Rattle.svn_answers.proofs.working.has_next.Goals as goal

pub returns-in-None : goal.returns-in-None
returns-in-None g c =
    let inv = c.pieces.invariant in
    let count = c.in-Ok.count in
    let rest = c.pieces.rest.now in
    let piece : List ℕ = take count c.read.new.buf in
    let more = came (g.R.Read.remaining c.pieces.input) (g.R.Read.remaining c.read.new.self) c.read.result count c.read.new.buf c.read.ensures.bytes c.in-Ok.is in
    let front = take_within count c.read.new.buf (drop (length rest) c.pieces.piece) c.in-Ok.ensures.bound.0 in
    others_came (g.R.Read.remaining c.args.input.now) (g.R.Read.remaining c.pieces.input) (g.R.Read.remaining c.read.new.self) c.args.wanted.now inv.done
    rest piece inv.all (omega (arith, sym c.in-Ok.ensures.bound.1, c.in-Ok.ensures.bound.0, c.read.auto.buf, inv.room, length-take (length rest) c.pieces.piece))
    (subst (λ (p : List ℕ). bytes_eq (take (length p) rest) p ≡ false) front c.in-None.ensures.cases) inv.taken more.0

pub pieces-preserved : goal.pieces-preserved
pieces-preserved g c =
    let inv = c.pieces.invariant in
    let rest = c.pieces.rest.now in
    elim c.match-read.branch [
      | in-Ok+in-Some w ↦
          let count = w.in-Ok.count in
          let piece : List ℕ = take count c.read.new.buf in
          let more = came (g.R.Read.remaining c.pieces.input) (g.R.Read.remaining c.read.new.self) c.read.result count c.read.new.buf c.read.ensures.bytes w.in-Ok.is in
          let front = take_within count c.read.new.buf (drop (length rest) c.pieces.piece) w.in-Ok.ensures.bound.0 in
          let rest_is = ap (λ x. x.now) w.rest-is in
          record {
            done = inv.done ++ piece;
            all = wanted_came c.args.wanted.now inv.done rest piece c.match-read.rest.now inv.all
                (subst (λ (p : List ℕ). bytes_eq (take (length p) rest) p ≡ true) front w.in-Some.ensures.cases.0)
                (rest_is ∙ w.in-Some.ensures.cases.1 ∙ ap (λ (p : List ℕ). drop (length p) rest) front);
            taken = took (g.R.Read.remaining c.args.input.now) (g.R.Read.remaining c.pieces.input) (g.R.Read.remaining c.read.new.self) inv.done piece inv.taken more.0;
            room = omega (arith, ap (λ (l : List ℕ). length l) rest_is, w.in-Some.ensures.cases.2, inv.room, c.read.auto.buf, length-take (length rest) c.pieces.piece, length-append c.read.new.buf (drop (length rest) c.pieces.piece));
          }
      | in-Err w ↦
          let rest_is = ap (λ x. x.now) w.rest-is in
          record {
            done = inv.done;
            all = inv.all ∙ ap (λ (l : List ℕ). inv.done ++ l) (sym rest_is);
            taken = failed (g.R.Read.remaining c.args.input.now) (g.R.Read.remaining c.pieces.input) (g.R.Read.remaining c.read.new.self) c.read.result _ inv.done c.read.new.buf inv.taken c.read.ensures.bytes w.in-Err.is;
            room = omega (arith, ap (λ (l : List ℕ). length l) rest_is, inv.room, c.read.auto.buf, length-take (length rest) c.pieces.piece, length-append c.read.new.buf (drop (length rest) c.pieces.piece));
          }
    ]
