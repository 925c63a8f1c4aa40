pub mod TableLaws
pub mod PieceLaws
pub mod HoldingLaws
pub mod RoomLaws
pub mod SwapLaws
