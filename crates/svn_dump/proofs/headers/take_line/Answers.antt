use Rattle.std.proofs.Common.{◌≡◌, ◌<◌, length, sym, arith}
use Rattle.svn_dump.specs.HeaderNames.{index_of}
use Rattle.svn_dump.proofs.HeaderLemmas.{gives_once}
use Rattle.svn_dump.proofs.headers.take_line.Goals as goal

pub returns-in-Some-spelled-clause-given : goal.returns-in-Some-spelled-clause-given
returns-in-Some-spelled-clause-given c = λ name.
    let header = c.in-Some-spelled.name in
    let place : c.index-place.result ≡ index_of header = c.index-place.ensures.place in
    let within : index_of header < length c.args.given.now = omega (arith, place, c.index-place.ensures.within, c.told-given) in
    rw place (gives_once c.args.given.now c.once_more.result c.args.line.now c.in-Some.name.now c.in-Some.value.now header name
    c.in-Some.ensures (sym c.in-Some-spelled.ensures) within (rw (sym place) c.once_more.ensures))
