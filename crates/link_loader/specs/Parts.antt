-- What the modules of the code say, in the terms of the definitions.
pub use Rattle.object_tags.specs.Answers.{model_of_modules}
