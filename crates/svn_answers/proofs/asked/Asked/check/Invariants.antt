use Rattle.std.proofs.Common.{List, ℕ, take, map}
use Rattle.std.specs.Io.KnownBytes.{Appends}
use Rattle.svn_answers.specs.Answers.{Checks, compared}
use Rattle.svn_answers.specs.Notices.{Heard, HearsAll}
use Rattle.svn_answers.proofs.asked.Asked.check.Given as goal

-- the words so far are answered
abbrev pub invariant-loop-name : goal.invariant-loop-name
invariant-loop-name g l =
    (text : List ℕ) × (heard : Heard g.row.C-Fault.Denot)
    × Checks g.row.C-Fault.Denot (g.C.Copies.opens l.self.copies.now) (g.C.Copies.stayed l.self.copies.now) (compared l.self.history)
    (map (λ name. name.now) (take l.name-index l.names)) l.verdict text heard
    × Appends (g.W.Write.contents l.initial.output) (g.W.Write.contents l.output) text
    × HearsAll g.N.Notices.hears heard l.initial.notices l.notices
