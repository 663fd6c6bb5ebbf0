-- `server_of` meets its contract: each value is a word's. Assumes nothing.
use mathlib.Core.Path.{◌∙◌}
use mir.Syntax.{w8, w16}
use mir.Facts.{to_z-of_z}
use Rattle.actions.proofs.answering.server_of.Goals as goal

pub returns : goal.returns
returns c =
    λ i. record {
      leap = c.bits_at.ensures i;
      stratum = c.bits_at-2.ensures i;
      poll = (to_z-of_z {w = w8} (record { sfits = c.i8_at.type_inv }) ∙ c.i8_at.ensures) i;
      precision = (to_z-of_z {w = w8} (record { sfits = c.i8_at-2.type_inv }) ∙ c.i8_at-2.ensures) i;
      timescale = c.bits_at-3.ensures i;
      era = c.bits_at-4.ensures i;
      timescale_offset = (to_z-of_z {w = w16} (record { sfits = c.i16_at.type_inv }) ∙ c.i16_at.ensures) i;
      flags = c.bits_at-5.ensures i;
      root_delay = c.bits_at-6.ensures i;
      root_dispersion = c.bits_at-7.ensures i;
    }
