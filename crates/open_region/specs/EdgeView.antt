-- What an edge and a limit show: the numbers that they keep.
use Rattle.surd_number.specs.Number.{Number}
use Rattle.surd_number.specs.Value.{wide_number_of}
use Rattle.open_region.specs.declared.edge.Edge.{Edge}
use Rattle.open_region.specs.declared.interval.Limit.{Limit}

-- the cross product of the direction 0 to 7 of the edge's line with the points of the line
abbrev pub line_offset_of : Edge → Number
line_offset_of e = wide_number_of e.offset

abbrev pub limit_of : Limit → Number
limit_of l = wide_number_of l.value
