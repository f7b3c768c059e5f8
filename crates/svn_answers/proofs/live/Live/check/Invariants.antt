use Rattle.std.proofs.Common.{◌≡◌, List, ℕ, take, map}
use Rattle.std.specs.Option.{option_copied}
use Rattle.std.specs.Io.KnownBytes.{Appends}
use Rattle.svn_answers.specs.LiveAnswers.{LiveChecks}
use Rattle.svn_answers.specs.Notices.{Heard, HearsAll}
use Rattle.svn_answers.proofs.live.Live.check.Given as goal

-- the words so far are answered
abbrev pub invariant-loop-name : goal.invariant-loop-name
invariant-loop-name g l =
    (text : List ℕ) × (heard : Heard g.row.C-Fault.Denot)
    × LiveChecks g.S.Input.Read.remaining g.row.C-Fault.Denot (g.C.Copies.opens l.initial.self.copies.now) (g.C.Copies.stayed l.initial.self.copies.now)
    (option_copied l.initial.self.url) (map (λ name. name.now) (take l.name-index l.names)) l.verdict text heard l.initial.self.line l.self.line
    × Appends (g.O.Write.contents l.initial.output) (g.O.Write.contents l.output) text
    × HearsAll g.N.Notices.hears heard l.initial.notices l.notices
    × (l.self.copies ≡ l.initial.self.copies) × (l.self.url ≡ l.initial.self.url)
