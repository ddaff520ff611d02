pub mod PutTogether
pub mod EventJson
pub mod CheckedJson
pub mod SampledJson
pub mod Prelude
