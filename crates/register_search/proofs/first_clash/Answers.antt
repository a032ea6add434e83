-- `first_clash` meets its contract: lists that do not fit, a find, or none.
use Rattle.std.proofs.Common.{rules, sym}
use Rattle.register_search.proofs.Search.{unsearched, search-none, search-found, search-sure, later-below, earlier-below}
use Rattle.register_search.proofs.first_clash.Goals as goal

pub returns-in_err-folders : goal.returns-in_err-folders
returns-in_err-folders c =
    rw c.from_residual.ensures (sym (unsearched _ c.in_err-folders.ensures))

pub returns-in_err-f : goal.returns-in_err-f
returns-in_err-f c =
    let (same, fits) = c.in_ok-folders.ensures in
    rw c.from_residual-in_err-f.ensures (sym (search-none _ fits (rw same at c.in_err-f.ensures)))

pub first_earlier-requires : goal.first_earlier-requires
first_earlier-requires c =
    later-below _ _ c.in_ok-f.ensures

pub returns-in_err-g : goal.returns-in_err-g
returns-in_err-g c =
    absurd (search-sure _ _ c.in_ok-f.ensures c.in_err-g.ensures)

pub overflow_cast-result : goal.overflow_cast-result
overflow_cast-result c =
    search (rules, later-below _ _ c.in_ok-f.ensures)

pub overflow_cast-result-2 : goal.overflow_cast-result-2
overflow_cast-result-2 c =
    search (rules, later-below _ _ c.in_ok-f.ensures, earlier-below _ _ _ c.in_ok-g.ensures)

pub returns : goal.returns
returns c =
    let (same, fits) = c.in_ok-folders.ensures in
    sym (search-found _ _ (rw same at c.in_ok-f.ensures) _ fits (rw same at c.in_ok-g.ensures))
