use Rattle.std.proofs.Common.{◌≡◌, ◌+◌, length}
use Rattle.std.specs.List.{prefix_len}
use Rattle.svn_commands.specs.LogFields.{is_text_token}
use Rattle.svn_commands.proofs.log_fields.texts_len.Given as goal

abbrev pub decreases-texts : goal.decreases-texts
decreases-texts l = length l.rest

-- the run goes on from the strings so far
abbrev pub invariant-texts : goal.invariant-texts
invariant-texts l = record {
  goes_on : l.count + prefix_len is_text_token l.rest ≡ prefix_len is_text_token l.tokens;
  counted : l.count + length l.rest ≡ length l.tokens;
}
