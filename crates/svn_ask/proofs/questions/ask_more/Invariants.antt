use Rattle.std.proofs.Common.{◌≡◌, ◌-◌, ◌++◌, length, take, drop}
use Rattle.svn_ask.specs.Windows.{IsWindow, asks}
use Rattle.svn_ask.proofs.questions.ask_more.Given as goal

abbrev pub decreases-questions : goal.decreases-questions
decreases-questions l = length l.unanswered - l.count

-- what is left to ask is what was
abbrev pub invariant-questions : goal.invariant-questions
invariant-questions l = record {
  window : IsWindow (length l.unanswered) l.unanswered l.count l.bytes;
  asked : (asks l.one_by_one (take l.count l.unanswered) (drop l.count l.unanswered)).0
      ≡ (asks l.one_by_one (take l.fn.sent.0 l.unanswered) (drop l.fn.sent.0 l.unanswered)).0;
  written : l.out.items ++ (asks l.one_by_one (take l.count l.unanswered) (drop l.count l.unanswered)).1
      ≡ l.fn.out.items ++ (asks l.one_by_one (take l.fn.sent.0 l.unanswered) (drop l.fn.sent.0 l.unanswered)).1;
}
