use Rattle.std.proofs.Common.{◌≡◌, ℕ, [], ◌++◌, List, take, refl, ◌∙◌, arith}
use Rattle.std.proofs.KnownBytes.{Consumes-nil}
use Rattle.std.proofs.lemmas.Bool.{false≢true}
use Rattle.svn_disk_audit.proofs.KeptTexts.{read_more, read_none, read_all, not_empty}
use Rattle.svn_disk_audit.proofs.pristine.read_summed.Goals as goal

pub pieces-init : goal.pieces-init
pieces-init g c = record {
  front = [];
  taken = Consumes-nil (g.R.Read.remaining c.args.input.now);
  summed = c.new-sum.ensures;
  held = c.new-held.ensures.nothing;
  texts = c.new-held.ensures.texts;
  empty = (λ _. refl, λ _. refl);
}

pub returns-in-Ok-eq0-clause-text : goal.returns-in-Ok-eq0-clause-text
returns-in-Ok-eq0-clause-text g c =
    let inv = c.pieces.invariant in (
      inv.front,
      read_all (g.R.Read.remaining c.args.input.now) (g.R.Read.remaining c.pieces.input) (g.R.Read.remaining c.read.new.self) c.read.result
          c.in-Ok-eq0.field-0 inv.front c.read.new.buf inv.taken c.read.ensures.bytes c.in-Ok-eq0.is c.in-Ok-eq0.field-0-test (omega (arith, c.requires, c.pieces.auto.piece, c.read.auto.buf)),
      c.finalize.ensures inv.front inv.summed,
      inv.held,
      inv.empty,
    )

pub pieces-preserved-in-Ok : goal.pieces-preserved-in-Ok
pieces-preserved-in-Ok g c =
    let inv = c.pieces.invariant in
    let more : List ℕ = take c.in-Ok.count c.read.new.buf in
    record {
      front = inv.front ++ more;
      taken = read_more (g.R.Read.remaining c.args.input.now) (g.R.Read.remaining c.pieces.input) (g.R.Read.remaining c.read.new.self) c.read.result
          c.in-Ok.count inv.front c.read.new.buf more inv.taken c.read.ensures.bytes c.in-Ok.is refl;
      summed = c.update.ensures inv.front inv.summed;
      held = c.in_ok-add-in-Ok.ensures.more inv.front inv.held;
      texts = c.add.ensures.texts ∙ inv.texts;
      empty = (
        λ said. absurd (false≢true said),
        λ none. absurd (not_empty inv.front more (λ zero. c.in-Ok.count-test.1 (c.in-Ok.ensures.bound.1 ∙ zero)) none),
      );
    }

pub pieces-preserved : goal.pieces-preserved
pieces-preserved g c =
    let inv = c.pieces.invariant in
    record {
      front = inv.front;
      taken = read_none (g.R.Read.remaining c.args.input.now) (g.R.Read.remaining c.pieces.input) (g.R.Read.remaining c.read.new.self) c.read.result
          _ inv.front c.read.new.buf inv.taken c.read.ensures.bytes c.in-Err.is;
      summed = inv.summed;
      held = inv.held;
      texts = inv.texts;
      empty = inv.empty;
    }
