use Rattle.std.proofs.Common.{◌≡◌, sym, ◌∙◌}
use Rattle.std.specs.Ordering.{nat_cmp}
use Rattle.svn_lists.proofs.Digits.{nat_cmp-first_digit, nat_cmp-last_digit}
use Rattle.svn_lists.proofs.Orderings.{nat_cmp_unlike}
use Rattle.svn_types.specs.Forms.{head_in}
use Rattle.svn_types.proofs.PathKeys.{key_order}
use Rattle.svn_types.proofs.PathHeads.{unlike_heads}
use Rattle.svn_types.proofs.WholeHeads.{ordered_equal, whole_paths}
use Rattle.svn_types.proofs.rel_path.RelPathOrd.cmp.Goals as goal

pub returns-then-one-two : goal.returns-then-one-two
returns-then-one-two c =
    let unlike = nat_cmp_unlike c.front-one.result.first c.front-two.result.first c.cmp.result c.cmp.ensures c.if-one-two.true in
    unlike_heads c.args.self.now c.args.other.now (head_in c.front-one.result) (head_in c.front-two.result) c.front-one.ensures c.front-two.ensures c.cmp.result
    (nat_cmp-first_digit c.front-one.result.first c.front-two.result.first 281474976710656 (head_in c.front-one.result).second
    (head_in c.front-two.result).second
    c.front-one.ensures.small c.front-two.ensures.small c.cmp.result c.cmp.ensures unlike)
    unlike

pub returns-then-second : goal.returns-then-second
returns-then-second c =
    let one = (head_in c.front-one.result).second in
    let two = (head_in c.front-two.result).second in
    let is : c.cmp-then-second.result ≡ nat_cmp one two =
    c.cmp-then-second.ensures ∙ (λ i. nat_cmp (c.second-then-second.ensures i) (c.second-then-second-2.ensures i)) in
    unlike_heads c.args.self.now c.args.other.now (head_in c.front-one.result) (head_in c.front-two.result) c.front-one.ensures
    c.front-two.ensures c.cmp-then-second.result
    (is ∙ nat_cmp-last_digit c.front-one.result.first c.front-two.result.first 281474976710656 one two c.if-one-two.false)
    (nat_cmp_unlike one two c.cmp-then-second.result is
    (λ same. c.if-second.true (c.second.ensures ∙ same ∙ sym c.second-2.ensures)))

pub returns-then-is_whole : goal.returns-then-is_whole
returns-then-is_whole c =
    ordered_equal c.args.self.now c.args.other.now
    (whole_paths c.args.self.now c.args.other.now (head_in c.front-one.result) (head_in c.front-two.result) c.front-one.ensures c.front-two.ensures
    c.if-one-two.false (sym c.second.ensures ∙ c.if-second.false ∙ c.second-2.ensures) (c.is_whole.ensures c.if-is_whole.true))

pub returns : goal.returns
returns c =
    rw (c.cmp-2.ensures, c.key.ensures.key, c.key-2.ensures.key)
    (key_order c.args.self.now c.args.other.now c.key.ensures.plain c.key-2.ensures.plain)
