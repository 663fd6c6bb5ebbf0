-- Every row of the table holds: the definitions give what the rules say. Assumes nothing.
use mathlib.Core.Path.{refl}
use Rattle.octets.specs.Number.{num, octets}
use Rattle.octets.specs.Piece.{spelled}
use Rattle.header.specs.Header.{header_octets, refusal}
use Rattle.chain.specs.Chain.{all_zero, step_at, walk_for, walk, chain_refusal, sound_refusal}
use Rattle.filter_rules.specs.Positions.{positions}
use Rattle.filter_rules.specs.Filter.{add_all_in, count_below}
use Rattle.measure.specs.Measure.{difference, measurement}
use Rattle.worked.specs.Cases.{bare, request, table_for, same, all_same, agree, Worked, half_era_table, HalfEraWorked}

pub worked : Worked
unfolding num octets spelled header_octets refusal all_zero step_at walk_for walk chain_refusal sound_refusal positions add_all_in count_below difference measurement bare request table_for same all_same agree
worked = refl

pub half-era-worked : HalfEraWorked
unfolding difference measurement same all_same agree half_era_table
half-era-worked = refl
