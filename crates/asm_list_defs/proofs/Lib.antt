pub mod ModuleLaws
