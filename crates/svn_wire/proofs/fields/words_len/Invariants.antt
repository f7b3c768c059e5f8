use Rattle.std.proofs.Common.{◌≡◌, ◌+◌, length}
use Rattle.std.specs.List.{prefix_len}
use Rattle.svn_wire.specs.Fields.{is_word_token}
use Rattle.svn_wire.proofs.fields.words_len.Given as goal

abbrev pub decreases-words : goal.decreases-words
decreases-words l = length l.rest

-- the run goes on from the words so far
abbrev pub invariant-words : goal.invariant-words
invariant-words l = record {
  goes_on : l.count + prefix_len is_word_token l.rest ≡ prefix_len is_word_token l.tokens;
  counted : l.count + length l.rest ≡ length l.tokens;
}
