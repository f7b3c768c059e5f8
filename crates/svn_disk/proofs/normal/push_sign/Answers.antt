use Rattle.std.proofs.Common.{◌≡◌, ℕ, List, [], ◌∷◌, ◌++◌, true, false, subst, sym, rules, arith}
use Rattle.svn_disk.specs.Signs.{no_end, IsEnded}
use Rattle.svn_disk.proofs.Rewriting.{ended_second, ended_end, ended_other, ended_one, no_return}
use Rattle.svn_disk.proofs.normal.push_sign.Goals as goal

pub returns-then-sign-eq10 : goal.returns-then-sign-eq10
returns-then-sign-eq10 c = λ text end ended.
    let again : c.args.before ≡ 13 = omega arith in
    let feed : 10 ≡ c.args.sign = omega arith in
    subst (λ (sign : ℕ). IsEnded c.args.end.now (text ++ sign ∷ []) c.args.out.now.items sign) feed
    (ended_second c.args.end.now end text c.args.out.now.items c.args.before ended again)

pub returns-then-is_in_line : goal.returns-then-is_in_line
returns-then-is_in_line c = λ text end ended.
    let line : no_end c.args.sign ≡ true = search rules in
    subst (λ (bytes : List ℕ). IsEnded c.args.end.now (text ++ c.args.sign ∷ []) bytes c.args.sign) (sym c.in_ok-push.ensures.items)
    (ended_other c.args.end.now end text c.args.out.now.items c.args.before ended c.args.sign (no_return c.args.sign line))

pub returns : goal.returns
returns c = λ text end ended.
    let last : no_end c.args.sign ≡ false = search rules in
    subst (λ (bytes : List ℕ). IsEnded c.args.end.now (text ++ c.args.sign ∷ []) bytes c.args.sign) (sym c.in_ok-extend_from_slice.ensures.items)
    (ended_end c.args.end.now end text c.args.out.now.items c.args.before ended c.args.sign (ended_one c.args.sign last))
