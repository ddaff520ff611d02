-- The words that contracts name, passed on from one place. Declares nothing.
pub use Rattle.lrc_program.specs.Hints.Excerpts.{IsHintExcerpt, excerpt_caret_text, excerpt_text, excerpt_line_at, excerpt_place_text, excerpt_rest_text, excerpt_shown_text, excerpt_sign_of}
