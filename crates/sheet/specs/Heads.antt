-- The numbers of a head.
use Rattle.types.specs.Types.{kind_number, shape_number, size_number, form_number}
use Rattle.sheet.specs.declared.head.Head.{Head}
use Rattle.sheet.specs.declared.head.HeadNumbers.{HeadNumbers}

abbrev pub numbers_of : Head → HeadNumbers
numbers_of h = record { width = h.width; kind = kind_number h.result.kind; shape = shape_number h.result.shape; r = size_number h.result.r; s = size_number h.result.s; form = form_number h.form }
