-- `search::count_cell`: the marks are those of row k and the later ones.
use Rattle.search.proofs.Marks.{mark-low, mark-high}
use Rattle.search.proofs.count_cell.Goals as goal

pub returns-then-cell-lt1024-clause-written_marks_2 : goal.returns-then-cell-lt1024-clause-written_marks_2
returns-then-cell-lt1024-clause-written_marks_2 c =
    let a = c.args in
    mark-low a.tag a.used a.k a.rows.now c.requires.k_lt_used c.requires.written_marks c.requires.rows_value _ c.cell_at-cell.ensures
    c.if-cell-lt1024.true

pub returns-clause-written_marks_2 : goal.returns-clause-written_marks_2
returns-clause-written_marks_2 c =
    let a = c.args in
    mark-high a.tag a.used a.k a.rows.now c.requires.k_lt_used c.requires.written_marks c.requires.rows_value _ c.cell_at-cell.ensures
    c.if-cell-lt1024.false
