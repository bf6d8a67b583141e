-- What is known of a view at a moment of a run.
pub use Rattle.ja_meaning.specs.Moments.{Reads}
