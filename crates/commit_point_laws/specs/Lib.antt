pub mod PointLaws
pub mod RootLaws
pub mod EndLaws
pub mod TriedPoint
