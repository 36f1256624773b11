-- `put_new_book` meets its contract: the header is copied, then the part from word 9 to the size is cleared.
use Rattle.std.proofs.Common.{◌≡◌, ◌++◌, drop, length-take, arith}
use Rattle.integer.specs.Words.{word}
use Rattle.rulebook.specs.Layout.{stored}
use Rattle.rulebook.specs.Opening.{header}
use Rattle.opening.proofs.laws.HeaderLaws.{header-inside}
use Rattle.opening.proofs.laws.OpenLaws.{header-copied, header-then_zeros}
use Rattle.opening.proofs.open.put_new_book.Goals as goal
use Rattle.opening.proofs.open.put_new_book.Goals.{After-copy_from_slice}

pub slice_bounds-copy_from_slice-end : goal.slice_bounds-copy_from_slice-end
slice_bounds-copy_from_slice-end c = omega (arith, header-inside c.args.terms)

pub slice_bounds-copy_from_slice-end-2 : goal.slice_bounds-copy_from_slice-end-2
slice_bounds-copy_from_slice-end-2 c = let i = header-inside c.args.terms in simp length-take (omega arith)

pub copy_from_slice-requires : goal.copy_from_slice-requires
copy_from_slice-requires c = let i = header-inside c.args.terms in rw c.new_header.ensures (simp length-take (omega arith))

pub slice_bounds-clear-count : goal.slice_bounds-clear-count
slice_bounds-clear-count c = omega (arith, header-inside c.args.terms)

pub slice_bounds-clear-start : goal.slice_bounds-clear-start
slice_bounds-clear-start c = omega (arith, header-inside c.args.terms)

-- the words once the header is copied
copied : (c : After-copy_from_slice) → c.copy_from_slice.new.self ++ drop 9 c.args.book.now ≡ stored c.args.book.now 0 9 (word (header c.args.terms))
copied c =
    let i = header-inside c.args.terms in
    rw (c.copy_from_slice.ensures.after, c.new_header.ensures) (header-copied c.args.terms c.args.book.now (omega arith))

pub returns : goal.returns
returns c =
    rw (c.clear.ensures, copied (goal.at.returns c).After-copy_from_slice, c.book_size-end.ensures) (header-then_zeros c.args.terms c.args.book.now c.requires)
