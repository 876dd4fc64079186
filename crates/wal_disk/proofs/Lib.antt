mod Gates
mod Files
