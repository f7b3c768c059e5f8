use Rattle.std.proofs.Common.{sym, ◌∙◌}
use Rattle.svn_lists.proofs.Digits.{first_digit_apart, last_digit_apart}
use Rattle.svn_types.specs.Forms.{head_in}
use Rattle.svn_types.proofs.PathKeys.{key_equality}
use Rattle.svn_types.proofs.WholeHeads.{equal_paths, unlike_paths, whole_paths}
use Rattle.svn_types.proofs.rel_path.RelPathPartialEq.eq.Goals as goal

pub returns-then-one-two : goal.returns-then-one-two
returns-then-one-two c =
    unlike_paths c.args.self.now c.args.other.now (head_in c.front-one.result) (head_in c.front-two.result) c.front-one.ensures c.front-two.ensures
    (first_digit_apart c.front-one.result.first c.front-two.result.first 281474976710656 (head_in c.front-one.result).second
    (head_in c.front-two.result).second
    c.front-one.ensures.small c.front-two.ensures.small c.if-one-two.true)

pub returns-then-second : goal.returns-then-second
returns-then-second c =
    unlike_paths c.args.self.now c.args.other.now (head_in c.front-one.result) (head_in c.front-two.result) c.front-one.ensures
    c.front-two.ensures
    (last_digit_apart c.front-one.result.first c.front-two.result.first 281474976710656 (head_in c.front-one.result).second
    (head_in c.front-two.result).second
    c.if-one-two.false (λ same. c.if-second.true (c.second.ensures ∙ same ∙ sym c.second-2.ensures)))

pub returns-then-is_whole : goal.returns-then-is_whole
returns-then-is_whole c =
    sym
    (equal_paths c.args.self.now c.args.other.now
    (whole_paths c.args.self.now c.args.other.now (head_in c.front-one.result) (head_in c.front-two.result) c.front-one.ensures c.front-two.ensures
    c.if-one-two.false (sym c.second.ensures ∙ c.if-second.false ∙ c.second-2.ensures) (c.is_whole.ensures c.if-is_whole.true)))

pub returns : goal.returns
returns c =
    rw (c.eq.ensures, c.key.ensures.key, c.key-2.ensures.key)
    (key_equality c.args.self.now c.args.other.now c.key.ensures.plain c.key-2.ensures.plain)
