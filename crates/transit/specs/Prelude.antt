-- The words that contracts name, passed on from one place. Declares nothing.
pub use Rattle.transit.specs.Letters.{Letter, letter}
pub use Rattle.transit.specs.Letters.LetterKind.{grant}
pub use Rattle.transit.specs.Mail.{mail}
