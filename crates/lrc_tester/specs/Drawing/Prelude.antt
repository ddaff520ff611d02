-- The words that contracts name, passed on from one place. Declares nothing.
pub use Rattle.lrc_tester.specs.Drawing.Draw.{IsShape, access, below, drawn, drawn_sections, group, item, more_phases}
pub use Rattle.lrc_tester.specs.Drawing.Draw.{most_pieces, phase, piece, pieces, section, seeded, shape}
