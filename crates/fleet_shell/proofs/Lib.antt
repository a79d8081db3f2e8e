mod Behind
mod FirstFields
mod Returns
