-- The words that contracts name, passed on from one place. Declares nothing.
pub use Rattle.example_jacobi.specs.Plates.{is_border, plate}
