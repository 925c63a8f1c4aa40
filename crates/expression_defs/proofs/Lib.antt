mod ExpressionRows
pub mod TokenLaws
pub mod CharacterLaws
pub mod SymbolLaws
pub mod GrowingLaws
pub mod LayoutLaws
pub mod DefinedNames
